-- To which commit proxy it goes what a resolver or a log says of an entry.
use Rattle.std.specs.Prelude.{◌≡◌, ◌<◌, ℕ, length, Some, Err, slice_get}
use Rattle.fdb_keys.specs.declared.refusal.Refusal.{Refusal}
use Rattle.fdb_keys.specs.declared.refusal.Refusal.TheVariants.{Unknown}
use Rattle.fdb_machine.specs.machine.CommitProxySteps.{taken_by_sender, receives}
use Rattle.fdb_machine.specs.machine.Machine.{Machine}
use Rattle.fdb_machine.specs.machine.Roles.{Sender}

-- the entry's proxy; the sender took the entry
pub record IsReceiver (m : Machine) (entry : ℕ) (sender : Sender) (proxy : ℕ) : Type 0 where
  pub taken : ℕ
  pub took : taken_by_sender m sender ≡ Some taken
  pub within : entry < taken
  pub its : slice_get m.entry_proxies entry ≡ Some proxy
  pub there : proxy < length m.commit_proxies

-- no such proxy, or the sender didn't take the entry
pub record IsUnknown (m : Machine) (entry : ℕ) (sender : Sender) (why : Refusal) : Type 0 where
  pub why_is : why ≡ Unknown
  pub refused : receives m entry sender ≡ Err Unknown

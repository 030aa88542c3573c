-- The steps of the read-version proxies: sessions ask there, and are served.
use Rattle.std.specs.Prelude.{ℕ, Bool, [], ◌∷◌, ◌++◌, fold, map, Result, Ok, slice_get, slice_set}
use Rattle.std.specs.List.{list_any}
use Rattle.fdb_keys.specs.declared.refusal.Refusal.{Refusal}
use Rattle.fdb_keys.specs.declared.refusal.Refusal.TheVariants.{Exhausted, WrongState}
use Rattle.fdb_machine.specs.machine.Machine.{Machine, Transition, found, refused_where}
use Rattle.fdb_machine.specs.machine.Sessions.{Sessions, Asking, session_of, with_state, is_busy, has_used_up, serve}
use Rattle.fdb_machine.specs.declared.step.Answered.TheVariants as answered

-- Ask: refused while the session asks or waits for an answer. It drops an open transaction.
unfoldable pub asks : Machine → ℕ → ℕ → Result Transition Refusal
asks m session proxy = found (slice_get m.grv_proxies proxy) (λ there.
    refused_where (is_busy (session_of m.sessions session).state) WrongState
    (Ok (record {
      answer = answered.Done;
      next = record m {
        sessions = with_state m.sessions session Asking;
        grv_proxies = slice_set m.grv_proxies proxy (there ++ session ∷ []);
      };
    })))

-- the session has no number left for a transaction
abbrev pub has_no_number : Sessions → ℕ → Bool
has_no_number sessions session = has_used_up (session_of sessions session).last_number

-- Grant: all who ask there begin a transaction at the committed version, which is the greatest reported one.
unfoldable pub grants : Machine → ℕ → Result Transition Refusal
grants m proxy = found (slice_get m.grv_proxies proxy) (λ there.
    refused_where (list_any (has_no_number m.sessions) there) Exhausted
    (Ok (record {
      answer = answered.Granted (map (λ session. (session, m.committed)) there);
      next = record m {
        sessions = fold (serve m.committed) m.sessions there;
        grv_proxies = slice_set m.grv_proxies proxy [];
      };
    })))

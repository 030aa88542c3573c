use Rattle.std.proofs.Common.{◌≡◌, ◌∙◌, refl, sym, ap, true, [], ◌∷◌, ◌++◌, List, Some, Err, rules}
use Rattle.fdb_keys.specs.declared.refusal.Refusal.TheVariants.{NoMemory}
use Rattle.fdb_txn.specs.declared.spot.Spot.TheVariants as spot
use Rattle.fdb_client.specs.Programs.{is_read_only}
use Rattle.fdb_roles.specs.declared.placed.Placed.{Placed}
use Rattle.fdb_machine.specs.declared.step.AnyStep.TheVariants as step
use Rattle.fdb_machine.specs.machine.Sessions.{Idle, open_at}
use Rattle.fdb_machine.specs.machine.Steps.{ran_out}
use Rattle.fdb_core.specs.refinement.Cluster.{machine_of}
use Rattle.fdb_core.specs.refinement.Restoring.{failures_of}
use Rattle.fdb_core.specs.refinement.commit_proxy.Ties.{ReadsWithin, seen_as}
use Rattle.fdb_machine.proofs.Exports.{unless-map, unfinished, open-put}
use Rattle.fdb_roles.proofs.Exports.{map-at}
use Rattle.fdb_core.proofs.refinement.StepLemmas.{accepted, left, works}
use Rattle.fdb_core.proofs.refinement.client.Submitting.{acknowledged-tied, finished-none, room-kept, submits-read_only}
use Rattle.fdb_core.proofs.refinement.client.Submitting.{uses-none}
use Rattle.fdb_core.proofs.cluster.Cluster.submit_past.Goals as goal

pub returns-in_err-reserve : goal.returns-in_err-reserve
returns-in_err-reserve c proxy role at failed =
    let k = c.args.self.now in
    left k (step.Submit c.args.session proxy) c.from_residual.result _ NoMemory (search rules) tt
    (room-kept k c.requires k.sessions c.reserve.new.self refl c.reserve.ensures.items)

-- who isn't finished stays open
pub returns-in_err-transcript : goal.returns-in_err-transcript
returns-in_err-transcript c proxy role at failed =
    let k = c.args.self.now in
    let submit = step.Submit c.args.session proxy in
    let why = c.in_err-transcript.field-0.0 in
    let opened : open_at k.sessions c.args.session ≡ Some c.in-Some.txn.now = sym c.in-Some.ensures in
    let none : is_read_only c.in-Some.txn.now ≡ true = search rules in
    left k submit c.from_residual-in_err-transcript.result _ why (search rules)
    (unless-map (ran_out (Err why)) _ _
    (works k submit (Err why)
    (uses-none (machine_of k) (failures_of k) c.args.session proxy c.in-Some.txn.now opened none))
    (unfinished (machine_of k) c.args.session proxy (seen_as role) why
    (map-at seen_as k.commit_proxies.items proxy role at) c.in_err-transcript.ensures.answers))
    (room-kept k c.requires c.finish.new.self c.reserve.new.self c.in_err-transcript.ensures.err
    c.reserve.ensures.items)

-- one that wrote nothing is acknowledged
pub returns-in-ReadOnly : goal.returns-in-ReadOnly
returns-in-ReadOnly c proxy role at failed =
    let k = c.args.self.now in
    let submit = step.Submit c.args.session proxy in
    let transcript = c.in-ReadOnly.transcript in
    let is = finished-none k.sessions c.args.session c.in_ok-transcript.field-0 c.in_ok-transcript.ensures.answers
    transcript c.in-ReadOnly.is in
    let told = c.acknowledge.ensures.items
    ∙ ap (λ (all : List Placed). all ++ record
    { spot = spot.ReadOnly transcript.read_version; transcript = transcript } ∷ []) c.reserve.ensures.items in
    accepted submit
    (works k submit _
    (uses-none (machine_of k) (failures_of k) c.args.session proxy transcript is.0 is.1)
    (submits-read_only (machine_of k) c.args.session proxy (seen_as role) transcript
    (map-at seen_as k.commit_proxies.items proxy role at) is.0 is.1)) c.acknowledge.ensures.answer
    (λ i. record (machine_of k) { sessions = c.in_ok-transcript.ensures.ok i; acknowledged = told i }) refl
    (acknowledged-tied k c.requires c.finish.new.self c.acknowledge.new.acknowledged
    (rw c.in_ok-transcript.ensures.ok
    (open-put (ReadsWithin k.sequencer.committed) k.sessions c.args.session Idle c.requires.refines.opened tt)))

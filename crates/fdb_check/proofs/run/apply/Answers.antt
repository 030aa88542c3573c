use Rattle.std.proofs.Common.{◌≡◌, ◌∙◌, ◌<◌, ap, sym, refl, ℕ, List, length, Some, slice_get, rules}
use Rattle.std.proofs.lemmas.Option.{slice_get_read}
use Rattle.fdb_mutations.specs.Maps.{Map}
use Rattle.fdb_mutations.specs.Mutations.{effect}
use Rattle.fdb_mutations.specs.Stamping.{stamped}
use Rattle.fdb_mutations.specs.Stamps.{stamp_bytes}
use Rattle.fdb_check.proofs.ReplayLemmas.{effects-next}
use Rattle.fdb_check.proofs.run.apply.Goals as goal

pub loop-mutation-preserved : goal.loop-mutation-preserved
loop-mutation-preserved c =
    let mutations = c.args.mutations.now in
    let stamp : List ℕ = stamp_bytes c.args.stamp.version c.args.stamp.place in
    let i = c.loop-mutation.mutation-index in
    let within : i < length mutations = search rules in
    let there : slice_get mutations i ≡ Some c.mutation-item.result = slice_get_read mutations (length mutations) i
    c.mutation-item.result refl within c.mutation-item.is in
    c.in_ok-apply_stamped.ensures.answers
    ∙ ap (λ (map : Map). effect map (stamped stamp c.mutation-item.result)) c.loop-mutation.invariant
    ∙ sym (effects-next stamp c.args.map.now mutations i c.mutation-item.result there)

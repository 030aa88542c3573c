use Rattle.std.proofs.Common.{◌≡◌, ◌∙◌, sym, None, rules}
use Rattle.std.specs.BTreeMap.{is_at}
use Rattle.std.specs.Cmp.Lexicographic.{slice_cmp}
use Rattle.std.specs.Map.{lookup}
use Rattle.std.specs.Ordering.{nat_cmp}
use Rattle.fdb_owners.proofs.FreshLemmas.{set-absent}
use Rattle.fdb_owners.proofs.learning.put.Goals as goal

pub returns-in_default : goal.returns-in_default
returns-in_default c =
    let entries = c.args.breaks.now.entries in
    let point = c.args.point.now in
    let absent : lookup (is_at (slice_cmp nat_cmp point)) entries ≡ None = search rules in
    let same : c.get_mut.follows.lender-at-none.entries ≡ entries = search rules in
    same ∙ sym (set-absent point c.args.history entries absent)

use Rattle.std.proofs.Common.{◌≡◌, ◌∙◌, sym, ap, true, List, ◌∷◌, ◌++◌, append_assoc, rules}
use Rattle.std.specs.Slice.Iter.{iter_rest}
use Rattle.fdb_keys.specs.Joining.{begins_within_all}
use Rattle.fdb_keys.specs.Points.{Point}
use Rattle.fdb_keys.specs.RangeMaps.{begins_within}
use Rattle.fdb_keys.specs.Ranges.{Range, is_apart}
use Rattle.fdb_keys.proofs.InsertionLemmas.{apart_parts}
use Rattle.fdb_keys.proofs.tree_joining.list_begins_within_all.Goals as goal

pub loop-range-preserved : goal.loop-range-preserved
loop-range-preserved c =
    let begins = c.loop-range.begins.items in
    let entries = c.args.ranges.now.entries in
    let range = c.in-Some.range.now in
    let left = iter_rest c.next.new.self in
    let steps : iter_rest c.loop-range.range-iterator ≡ range ∷ left = search rules in
    let appended : c.append.new.self.items ≡ begins ++ begins_within range entries = search rules in
    let apart : is_apart (range ∷ left) ≡ true = sym (ap is_apart steps) ∙ c.loop-range.invariant.apart in
    record {
      apart = (apart_parts range left apart).2;
      all = ap (λ (l : List Point). l ++ begins_within_all left entries) appended
          ∙ append_assoc begins (begins_within range entries) (begins_within_all left entries)
          ∙ ap (λ (l : List Range). begins ++ begins_within_all l entries) (sym steps)
          ∙ c.loop-range.invariant.all;
    }

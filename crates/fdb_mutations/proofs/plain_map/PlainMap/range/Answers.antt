use Rattle.std.proofs.Common.{◌≡◌, ◌∙◌, ap, true, false, rules}
use Rattle.std.specs.FinMap.{from_entries}
use Rattle.fdb_mutations.specs.Lent.{lent_pairs}
use Rattle.fdb_mutations.specs.Maps.{has_legal_keys}
use Rattle.fdb_mutations.specs.Pairs.{pairs_in, first_of}
use Rattle.fdb_mutations.proofs.MapsLemmas.{legal-pairs_in}
use Rattle.fdb_mutations.proofs.plain_map.PlainMap.range.Goals as goal
use Rattle.fdb_mutations.proofs.plain_map.PlainMap.range.Goals.{then-reverse+in_ok-found, else-reverse+in_ok-found-2}

pub copies-requires : goal.copies-requires
copies-requires c =
    elim c.if-reverse.branch [
      | then-reverse+in_ok-found w ↦
          let found : lent_pairs c.as_slice.result.now
          ≡ first_of c.args.limit (pairs_in (from_entries c.self.inside.pairs.entries) c.args.range.now true) =
          search rules in
          ap has_legal_keys found
          ∙ legal-pairs_in c.self.inside.pairs.entries c.args.range.now true c.args.limit c.self.invariant
      | else-reverse+in_ok-found-2 w ↦
          let found : lent_pairs c.as_slice.result.now
          ≡ first_of c.args.limit (pairs_in (from_entries c.self.inside.pairs.entries) c.args.range.now false) =
          search rules in
          ap has_legal_keys found
          ∙ legal-pairs_in c.self.inside.pairs.entries c.args.range.now false c.args.limit c.self.invariant
    ]

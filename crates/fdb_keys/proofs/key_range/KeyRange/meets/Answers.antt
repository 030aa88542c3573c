use Rattle.std.proofs.Common.{◌≡◌, ◌∙◌, sym, true, rules}
use Rattle.fdb_keys.specs.Ranges.{ranges_meet}
use Rattle.fdb_keys.specs.Texts.{is_bound}
use Rattle.fdb_keys.proofs.RangesLemmas.{begin_from_meet, common_from_meet, meet_from_common}
use Rattle.fdb_keys.proofs.key_range.KeyRange.meets.Goals as goal

pub returns-clause-common : goal.returns-clause-common
returns-clause-common c =
    let returned : c.have_common_point.result ≡ ranges_meet c.args.self.now c.args.other.now = search rules in (
      λ meet. common_from_meet c.args.self.now c.args.other.now (sym returned ∙ meet),
      λ common. returned ∙ meet_from_common c.args.self.now c.args.other.now common.0 common.1 common.2,
    )

pub returns-clause-bound : goal.returns-clause-bound
returns-clause-bound c =
    let returned : c.have_common_point.result ≡ ranges_meet c.args.self.now c.args.other.now = search rules in
    λ meet. begin_from_meet (λ x. is_bound x ≡ true) c.args.self.now c.args.other.now c.begin.ensures.legal
    c.begin-2.ensures.legal (sym returned ∙ meet)

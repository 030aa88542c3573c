use Rattle.std.proofs.Common.{◌≡◌, sym, ◌∙◌, ap, ◌++◌}
use Rattle.fdb_proxy.specs.RequestFields.{all_of}
use Rattle.fdb_proxy.specs.Requests.{Requests, place_of}
use Rattle.fdb_proxy.proofs.NameLemmas.{no_place}
use Rattle.fdb_proxy.proofs.RequestLemmas.{all_in_parts}
use Rattle.fdb_proxy.proofs.requests.Requests.place_of.Goals as goal

pub returns-then-not-contains : goal.returns-then-not-contains
returns-then-not-contains c =
    let same : all_of c.self.inside ≡ c.args.self.now.batch ++ c.args.self.now.waiting =
    all_in_parts c.self.inside ∙ ap (λ (requests : Requests). requests.batch ++ requests.waiting) c.self.view_is in
    let none = sym (c.self.invariant.names.every c.args.id) ∙ sym c.contains.ensures ∙ c.if-not-contains.true in
    sym (no_place c.args.id (all_of c.self.inside) none) ∙ ap (place_of c.args.id) same

pub returns : goal.returns
returns c =
    rw (c.place_in.ensures, c.deref.ensures.value, c.places_of.ensures.value, ← c.self.view_is)
    (ap (place_of c.args.id) (all_in_parts c.self.inside))

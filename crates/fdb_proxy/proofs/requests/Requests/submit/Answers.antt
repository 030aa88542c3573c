use Rattle.std.proofs.Common.{◌≡◌, ◌∙◌, ap, ◌∷◌, [], ◌++◌, ◌||◌, false, arith, rules}
use Rattle.std.proofs.lemmas.Grind.{common_steps}
use Rattle.std.proofs.lemmas.List.{append_assoc}
use Rattle.fdb_txn.specs.Equality.{txn_id_eq}
use Rattle.fdb_proxy.specs.Names.{has}
use Rattle.fdb_proxy.specs.RequestFields.{all_of, places_of}
use Rattle.fdb_proxy.specs.Requests.{Requests, is_named, place_of}
use Rattle.fdb_proxy.proofs.NameLemmas.{names-pushed, no_name}
use Rattle.fdb_proxy.proofs.RequestLemmas.{all_in_parts}
use Rattle.fdb_proxy.proofs.requests.Requests.submit.Goals as goal

-- the list is that of the requests before, where no one has the id
none : (c : goal.After-push_reserved) → is_named (all_of c.self.inside) c.args.sealed.id ≡ false
none c =
    let r = c.self.inside in
    let old = c.args.self.now in
    let same = c.reserve.ensures.same in
    let before : all_of r ≡ old.batch ++ old.waiting =
    all_in_parts r
    ∙ ap (λ (requests : Requests). requests.batch ++ requests.waiting) c.self.view_is
    ∙ ap (λ batch. batch ++ c.reserve.new.self.waiting) same.in_flight
    ∙ ap (λ waiting. old.batch ++ waiting) same.in_line in
    no_name c.args.sealed.id (all_of r) (ap (place_of c.args.sealed.id) before ∙ c.requires)

pub invariant_of-self : goal.invariant_of-self
invariant_of-self c =
    let r = c.self.inside in
    record {
      ids = grind (arith, common_steps);
      room = search rules;
      no_ids = search rules;
      none_in_room = search rules;
      names = rw (
        c.push_reserved.ensures.items,
        ← append_assoc (places_of r.last_batch) r.list.items (c.args.sealed ∷ []),
      )
          (names-pushed r.names c.add.new.self (all_of r) c.args.sealed c.self.invariant.names (none c)
          (λ id. c.add.ensures id ∙ ap (λ own. txn_id_eq own id || has r.names id) c.id.ensures));
    }

use Rattle.std.proofs.Common.{◌≡◌, ◌∙◌, sym, ap, List, [], ◌∷◌, ◌++◌, append_assoc, append-nil, filter, rules}
use Rattle.std.specs.Vec.Iter.{into_iter_items}
use Rattle.std.proofs.lemmas.List.{nil_from_length}
use Rattle.std.proofs.lemmas.List.Elements.{filter-append}
use Rattle.fdb_log.specs.declared.message.Tagged.{Tagged}
use Rattle.fdb_storage.specs.LogMessages.{is_for_log}
use Rattle.fdb_proxy.proofs.bodies.spread.Goals as goal

pub loop-sent-preserved : goal.loop-sent-preserved
loop-sent-preserved c =
    let sent = c.in-Some.sent in
    let before = c.loop-sent.yielded in
    let rest = into_iter_items c.next.new.self in
    let step : into_iter_items c.loop-sent.sent-iterator ≡ sent ∷ rest = c.in-Some.ensures.steps.0 in
    record {
      can_next = tt;
      is_finite = tt;
      left = append_assoc before (sent ∷ []) rest
          ∙ ap (λ (list : List Tagged). before ++ list) (sym step)
          ∙ c.loop-sent.invariant.left;
      long = c.in_ok-hand_out.ensures.long;
      bodies = λ log below.
          c.in_ok-hand_out.ensures.given log below
          ∙ ap (λ (list : List Tagged). list ++ filter (is_for_log c.args.logs log) (sent ∷ []))
          (c.loop-sent.invariant.bodies log below)
          ∙ sym (filter-append (is_for_log c.args.logs log) before (sent ∷ []));
    }

pub returns-clause-bodies : goal.returns-clause-bodies
returns-clause-bodies c log below =
    let given = c.loop-sent.yielded in
    let none : into_iter_items c.loop-sent.sent-iterator ≡ [] =
    nil_from_length (into_iter_items c.loop-sent.sent-iterator) (search (rules, c.in-None.ensures.steps.0)) in
    let all : given ≡ c.args.body =
    sym (append-nil given)
    ∙ ap (λ (rest : List Tagged). given ++ rest) (sym none)
    ∙ c.loop-sent.invariant.left in
    c.loop-sent.invariant.bodies log below ∙ ap (filter (is_for_log c.args.logs log)) all

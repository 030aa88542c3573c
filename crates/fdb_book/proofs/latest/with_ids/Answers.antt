use Rattle.std.proofs.Common.{◌≡◌, ◌∙◌, sym, subst, true, false}
use Rattle.fdb_book.specs.Ids.{Latest, IsLater}
use Rattle.fdb_book.proofs.IdLemmas.{later-put, later-apart, later-known, later-unknown, taken-more, new-more}
use Rattle.fdb_book.proofs.latest.with_ids.Goals as goal
use Rattle.fdb_book.proofs.latest.with_ids.Goals.{in-Some, in_default+in_ok-insert-in_default}
use Rattle.fdb_book.proofs.latest.with_ids.Goals.{in_default-via-in-Some+else-id-known, in_default-via-in_default}

pub loop-sealed-preserved : goal.loop-sealed-preserved
loop-sealed-preserved c =
    let before = c.args.latest in
    let batch = c.args.batch.now in
    let i = c.loop-sealed.sealed-index in
    let taken = c.loop-sealed.taken in
    let t = c.sealed-item.result in
    let id = c.id-id.result in
    let more = taken-more before taken c.match-get.taken batch i t id c.loop-sealed-test.true c.sealed-item.is
    c.id-id.ensures c.loop-sealed.invariant.taken in
    elim c.match-get.branch [
      | in-Some w ↦ record {
        taken = more (λ other later.
            let was : IsLater taken other = subst (λ (m : Latest). IsLater m other) w.taken-is later in
            (was, later-apart taken id other w.in-Some.known.now (sym w.in-Some.ensures.value) w.if-id-known.true was));
        new = λ yes. let no : true ≡ false = sym yes ∙ w.are_new-is in cc;
      }
      | in_default+in_ok-insert-in_default w ↦
          let is_later : IsLater taken id = elim w.in_default.branch [
            | in_default-via-in-Some+else-id-known v ↦
                later-known taken id v.in-Some.known.now v.in-Some.ensures.value v.if-id-known.false
            | in_default-via-in_default v ↦ later-unknown taken id v.in_default.ensures.value
          ] in
          record {
            taken = more (λ other later.
                later-put taken w.insert.new.self id other is_later
                (w.in_ok-insert-in_default.ensures.updates.0 other.session)
                (subst (λ (m : Latest). IsLater m other) w.taken-is later));
            new = λ yes book covers.
                c.loop-sealed.invariant.new (sym w.are_new-is ∙ yes) book covers
                ∙ new-more before taken book batch i t id c.loop-sealed-test.true c.sealed-item.is c.id-id.ensures
                c.loop-sealed.invariant.taken covers is_later;
          }
    ]

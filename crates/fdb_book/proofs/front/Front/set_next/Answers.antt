use Rattle.std.proofs.Common.{◌∙◌, sym, subst, ap, length, List, [], ◌∷◌, ◌++◌, None, rules}
use Rattle.fdb_txn.specs.declared.entry.Entry.{Entry}
use Rattle.fdb_book.specs.Fronts.{IsLinkedBook}
use Rattle.fdb_book.specs.Appending.{append_fault, Found}
use Rattle.fdb_book.specs.Ids.{Latest, Covers}
use Rattle.fdb_book.proofs.FactLemmas.{counted-view}
use Rattle.fdb_book.proofs.FoundLemmas.{front-next, room-left, match-none, match-some}
use Rattle.fdb_book.proofs.FoundLemmas.{given-fits, given-has, taken-back}
use Rattle.fdb_book.proofs.front.Front.set_next.Goals as goal

pub fill_next-facts-requires : goal.fill_next-facts-requires
fill_next-facts-requires g c =
    room-left _ _ _ _ c.args.entry c.self.invariant.same c.self.invariant.first c.self.view_is c.requires.fits

pub invariant_of-result : goal.invariant_of-result
invariant_of-result g c =
    front-next _ _ _ _ _ _ _ _ (rw c.in-Ok.ensures.0 c.self.invariant.same) c.fill_next-facts.ensures.first
    (counted-view _ _ _ c.self.invariant.counted c.self.view_is)
    (match-none _ _ _ c.in_default-other.is c.fill_next-facts.ensures.entry
    ∙ ap (λ (it : Entry). c.args.self.now ++ it ∷ []) c.in-Ok.ensures.1)
    (subst IsLinkedBook c.self.view_is c.self.invariant.book) c.requires.fits c.requires.sealed c.requires.ids

pub invariant_of-front : goal.invariant_of-front
invariant_of-front g c =
    front-next _ _ _ _ _ _ _ _ (rw c.in-Ok.ensures.0 c.self.invariant.same) c.fill_next-facts.ensures.first
    (counted-view _ _ _ c.self.invariant.counted c.self.view_is)
    (match-some _ _ _ _ c.in-Some.is c.fill_next-facts.ensures.entry).0
    (subst IsLinkedBook c.self.view_is c.self.invariant.book) (given-fits {T = Latest} c.in-Ok-prepare.latest
    (append_fault (length g.B.BookName.cells) c.args.self.now c.in-Some.other.now)
    (λ latest. Covers latest (c.args.self.now ++ c.in-Some.other.now ∷ []))
    c.in-Ok-prepare.ensures.answers)
    c.in-Ok-prepare.ensures.sealed (given-has {T = Latest} c.in-Ok-prepare.latest
    (append_fault (length g.B.BookName.cells) c.args.self.now c.in-Some.other.now)
    (λ latest. Covers latest (c.args.self.now ++ c.in-Some.other.now ∷ []))
    c.in-Ok-prepare.ensures.answers)

pub returns : goal.returns
returns g c =
    let other = match-some _ _ _ _ c.in-Some.is c.fill_next-facts.ensures.entry in
    let bare : List Entry → Found = λ (entries : List Entry). record { entries = entries; front = None } in
    taken-back {T = Latest}
    (length g.B.BookName.cells) c.args.self.now c.args.entry c.in-Some.other.now c.in-Err.field-0
    (λ latest. Covers latest (c.args.self.now ++ c.in-Some.other.now ∷ [])) c.new-in-Err.result c.requires.fits
    (λ same. other.1 (same ∙ sym c.in-Ok.ensures.1)) c.in-Err.ensures.answers (λ lacked. search (rules, lacked))
    (c.new-in-Err.ensures ∙ ap bare other.0)

-- The note takes what is known of the cell, and what it knew before agrees with that.
use Rattle.std.proofs.Common.{◌≡◌, ℕ, List, [], ◌∷◌, slice_get, refl, w64}
use mir.Syntax.{a_type, named}
use mir.Val.{Val, vptr, vunit, vint}
use mir.MapTy.{inst_fn}
use base.Logic.{SProp, emp, via, snd∗, apply∗, guard_i, all, all_e}
use base.Fml.{Lft, Share, Fml, ftrue, fsep, flft}
use types.Logic.{sem}
use types.Kit.{‵, raw, ◌⊛◌, given, later, ◌$◌, ◌∵◌, !, qed, by, move, keep, drop, split, join}
use types.Kit.{fsplit, fsplit3, fjoin, learn, use0, use1, use2, await, feq_i}
use types.Run.{of_opd, returns, enter, unit_lit}
use types.ByLocal.{alloc_all, pass_all, free_all, look_at, sets}
use contract.Monad.{fact, fact_i, fact_use}
use contract.BorrowLft.{◌⊑◌}
use contract.Running.{tables}
use denote.Builtin.{RefOf, usize}
use denote.Exit.{yes}
use denote.Opens.{unhide}
use denote.Plain.{uint_vals, uint_Tells}
use denote.RattleType.{RattleType, owns}
use denote.Ref.{mut_vals, mut_Tells, shr_vals, shr_Tells}
use denote.Signature.{types_at, plain}
use denote.Steps.{nothing, heard}
use denote.Param.{param, layouts}
use denote.Triple.Walked.{Stays, walk_of, stay_dropped, Goes-dropped, stay_ref, Goes-ref}
use Rattle.std.proofs.raw_atomic.Walks.{proved, leaves}
use Rattle.std.specs.declared.option.Option.TheVariants.{Some}
use Rattle.once_cell.specs.Once.{Agrees, noted}
use Rattle.once_cell.proofs.Notes as notes
use Rattle.once_cell.proofs.Notes.{Note}
use Rattle.fdb_book.proofs.Known.{noted_at}
use Rattle.fdb_book.specs.contracts.facts.Facts as Facts
use Rattle.fdb_book.specs.contracts.facts.Facts.tell.{ended, clauses}
use Rattle.fdb_book.specs.contracts.facts.Facts.tell.Key.{name as #self}
use Rattle.fdb_book.proofs.facts.Facts.tell.Statement.{statement}
use Rattle.fdb_book.proofs.facts.Facts.tell.Code as code

pub tell_spec : {M : Type 1} → statement M
tell_spec 𝓤 𝓛 𝓜 𝓡 wired T L =
    let H = 𝓛.H in let 𝓣 = tables 𝓤 H 𝓜 𝓡 𝓡.env in let R : RattleType = param 0 T in
    let F : RattleType = Facts.the_row R in let N : RattleType = Note 𝓛 R in let En = ended T in
    let c = clauses T 𝓛 𝓜.mem 𝓡.returns in
    let inst = layouts (a_type ∷ []) (T, tt) in let fn = inst_fn inst code.function in
    let self = RefOf (0 ∷ []) tt (plain (λ _. F)) (λ _. tt) in let number = plain (λ _. usize) in
    let hs : Stays En.signature.params En.kept = (
      stay_dropped self yes,
      (stay_dropped number yes, (stay_ref (1 ∷ []) tt (plain (λ _. N)), tt)),
    ) in
    proved 𝓛 En hs c 𝓜 𝓡 (
      Goes-dropped 𝓛 3 self yes (λ κs x f. refl),
      (Goes-dropped 𝓛 3 number yes (λ κs x f. refl), (Goes-ref 𝓛 3 1 tt (plain (λ _. N)), tt)),
    ) (#self inst) fn
    (code.unfolded 𝓤 H 𝓜 𝓡 wired (T, tt))
    (λ κs. (shr_vals, (uint_vals w64, (mut_vals, tt))))
    (λ κs. (shr_Tells (named 0) κs.0 F, (uint_Tells w64, (mut_Tells (named 1) κs.1.0 N, tt))))
    (λ κs qs bounds a gh are.
    let p : Val = vptr a.0.ref_ptr.0 a.0.ref_ptr.1 in let i : ℕ = a.1.0 in let κ : Lft = κs.1.0 in
    let q : Share = qs.1.0 in let b : ℕ = a.1.1.0.ref_ptr.0 in let o : ℕ = a.1.1.0.ref_ptr.1 in
    let ν : ℕ = a.1.1.0.ghost_name in
    let n = a.1.1.0.now in let γ : ℕ = n.cell in let ks : List (ℕ × T.Denot) = a.0.now.known in
    let y : (walk_of 𝓛 En hs c).Ghost = ((κs, qs, bounds, a, (p ∷ [], (uint_vals w64 i, (vptr b o ∷ [], tt)))), gh) in
    let Post : Val → SProp 𝓤 = (walk_of 𝓛 En hs c).post y in
    let Shuts = notes.Shuts 𝓛 R κ q b o ν in
    let Known : Type 0 = (x : T.Denot) × (slice_get ks i ≡ Some (γ, x)) in
    let rest : Fml = fsep (flft κs.1.1.0 qs.1.1.0) ftrue in
    qed 𝓛 (((‵ (flft κs.0 qs.0) ⊛ ‵ (fsep (flft κ q) rest)) ⊛ ‵ (owns (types_at En.signature.params κs) a y.0.4))
    ∷ raw (fact 𝓤 (κs.1.1.0 ⊑ T.lives)) ∷ raw (fact 𝓤 Known) ∷ []) ∵
    move ! (2 ∷ []) $ heard ! Known (λ known. let x : T.Denot = known.0 in
    let e : slice_get ks i ≡ Some (γ, x) = known.1 in let m : N.Denot = record n { known = Some x } in
    let K : Fml = noted R γ (Some x) in let So : Type 0 = Agrees n.known x in
    let Told : Type 0 = (γ ≡ γ) × ((v : T.Denot) × (slice_get ks i ≡ Some (γ, v)) × (m.known ≡ Some v)
    × Agrees n.known v) in
    split ! $ split ! $ move ! (2 ∷ []) $ fsplit3 ! $ fsplit ! $ move ! (3 ∷ []) $ fsplit ! $ fsplit ! $
    keep ! (4 ∷ 1 ∷ 7 ∷ 6 ∷ []) $
    unhide ! $ fsplit ! $ drop ! $ use1 𝓛 (‵ K) (noted_at 𝓛 R ks i γ x e) $
    enter ! 𝓣.C 𝓣.Λ fn (p ∷ vint w64 i ∷ vptr b o ∷ []) Post $
    alloc_all ! (λ l. pass_all ! refl ((tt, tt), ((tt, record { fits = are.1.0.1 }), ((tt, tt), tt))) $
    -- [what is known of the cell; the note behind its borrow; the other tokens; the first one's token]
    move ! (2 ∷ []) $ fsplit ! $ move ! (3 ∷ 0 ∷ []) $
    use2 𝓛 (later (‵ (noted R γ n.known) ⊛ raw (all 𝓤 Shuts))) (notes.note_opens 𝓛 R κ q b o ν n) $ await ! tt $
    split ! $ move ! (0 ∷ 3 ∷ []) $
    use2 𝓛 (given So (‵ K)) (fact_use 𝓤 So (notes.noted_agree 𝓛 R γ n.known (Some x))
    (λ so. via 𝓤 _ (snd∗ 𝓤 (sem 𝓛 (noted R γ n.known)) (sem 𝓛 K)) (guard_i 𝓤 So (sem 𝓛 K) so))) $
    learn ! (λ so.
    move ! (1 ∷ []) $ use1 𝓛 (raw (Shuts m)) (all_e 𝓤 Shuts m) $ move ! (1 ∷ 0 ∷ []) $
    use2 𝓛 (later (‵ (notes.lent 𝓛 R κ q b o ν m) ⊛ ‵ (flft κ q))) (apply∗ 𝓤 (sem 𝓛 K) _) $ await ! tt $
    split ! $
    -- [the note in its borrow; the borrow's token; the last token; the first one]
    feq_i ! (List Val) (vptr b o ∷ []) (vptr b o ∷ []) refl $ fjoin ! $ nothing ! $ move ! (1 ∷ 0 ∷ []) $
    fjoin ! $ nothing ! $ fjoin ! $ nothing ! $ fjoin ! $
    move ! (1 ∷ 2 ∷ []) $ fjoin ! $ move ! (2 ∷ 0 ∷ []) $ join ! $
    sets ! (of_opd ! (unit_lit !)) refl (tt, tt) $ feq_i ! (List Val) (vunit ∷ []) (vunit ∷ []) refl $
    use0 𝓛 (raw (fact 𝓤 Told)) (fact_i 𝓤 Told (emp 𝓤) (refl, (x, e, refl, so))) $
    returns ! (look_at ! 0 refl) $ free_all ! refl $ keep ! (2 ∷ 3 ∷ 1 ∷ 0 ∷ []) $
    by ! (leaves 𝓛 En hs c y vunit tt (tt, (tt, (m, tt))) (tt, (tt, (tt, tt))))))))

-- What is known, once more, and what the note owns, which it keeps too.
use Rattle.std.proofs.Common.{◌≡◌, ℕ, List, [], ◌∷◌, ◌++◌, refl}
use mir.Syntax.{a_type, named}
use mir.Val.{Val, vptr}
use mir.MapTy.{inst_fn}
use base.Logic.{SProp, emp, apply∗, all, all_e}
use base.Fml.{Lft, Share, Fml, ftrue, fsep, flft}
use types.Logic.{sem}
use types.Kit.{‵, raw, ◌⊛◌, later, ◌$◌, ◌∵◌, !, qed, by, move, keep, drop, split, join}
use types.Kit.{fsplit, fsplit3, fjoin, use0, use1, use2, await, rewrite, feq_i}
use types.Run.{no_more, and_then, returns, enter}
use types.ByLocal.{alloc_all, pass_all, free_all, look_at, get, sets}
use types.Part.{agg}
use contract.Monad.{fact, fact_i}
use contract.BorrowLft.{◌⊑◌}
use contract.Running.{tables}
use denote.Builtin.{RefOf}
use denote.Exit.{yes}
use denote.Opens.{unhide}
use denote.RattleType.{RattleType, owns}
use denote.Ref.{mut_vals, mut_Tells, shr_vals, shr_Tells}
use denote.Signature.{types_at, plain}
use denote.Steps.{nothing, heard}
use denote.Param.{param, layouts}
use denote.Triple.Walked.{Stays, walk_of, stay_dropped, Goes-dropped, stay_ref, Goes-ref}
use Rattle.std.proofs.raw_atomic.Walks.{proved, leaves}
use Rattle.std.specs.declared.option.Option.{Option}
use Rattle.std.specs.declared.option.Option.TheVariants.{Some}
use Rattle.once_cell.specs.Once.{noted}
use Rattle.once_cell.proofs.Notes as notes
use Rattle.once_cell.proofs.Notes.{Note}
use Rattle.fdb_book.specs.Facts.{all_noted}
use Rattle.fdb_book.proofs.Known.{token, facts_of, facts_made, one_more}
use Rattle.fdb_book.specs.contracts.facts.Facts as Facts
use Rattle.fdb_book.specs.contracts.facts.Facts.with.{ended, clauses}
use Rattle.fdb_book.specs.contracts.facts.Facts.with.Key.{name as #self}
use Rattle.fdb_book.proofs.facts.Facts.with.Statement.{statement}
use Rattle.fdb_book.proofs.facts.Facts.with.Code as code

pub with_spec : {M : Type 1} → statement M
with_spec 𝓤 𝓛 𝓜 𝓡 wired T L =
    let H = 𝓛.H in let 𝓣 = tables 𝓤 H 𝓜 𝓡 𝓡.env in let R : RattleType = param 0 T in
    let F : RattleType = Facts.the_row R in let N : RattleType = Note 𝓛 R in let En = ended T in
    let c = clauses T 𝓛 𝓜.mem 𝓡.returns in
    let inst = layouts (a_type ∷ []) (T, tt) in let fn = inst_fn inst code.function in
    let self = RefOf (0 ∷ []) tt (plain (λ _. F)) (λ _. tt) in
    let hs : Stays En.signature.params En.kept = (stay_dropped self yes, (stay_ref (1 ∷ []) tt (plain (λ _. N)), tt)) in
    proved 𝓛 En hs c 𝓜 𝓡 (Goes-dropped 𝓛 3 self yes (λ κs x f. refl), (Goes-ref 𝓛 3 1 tt (plain (λ _. N)), tt))
    (#self inst) fn (code.unfolded 𝓤 H 𝓜 𝓡 wired (T, tt))
    (λ κs. (shr_vals, (mut_vals, tt))) (λ κs. (shr_Tells (named 0) κs.0 F, (mut_Tells (named 1) κs.1.0 N, tt)))
    (λ κs qs bounds a gh are.
    let p : Val = vptr a.0.ref_ptr.0 a.0.ref_ptr.1 in let κ : Lft = κs.1.0 in let q : Share = qs.1.0 in
    let b : ℕ = a.1.0.ref_ptr.0 in let o : ℕ = a.1.0.ref_ptr.1 in let ν : ℕ = a.1.0.ghost_name in
    let n = a.1.0.now in let γ : ℕ = n.cell in let ks : List (ℕ × T.Denot) = a.0.now.known in
    let y : (walk_of 𝓛 En hs c).Ghost = ((κs, qs, bounds, a, (p ∷ [], (vptr b o ∷ [], tt))), gh) in
    let Post : Val → SProp 𝓤 = (walk_of 𝓛 En hs c).post y in
    let Shuts = notes.Shuts 𝓛 R κ q b o ν in let Known : Type 0 = (x : T.Denot) × (n.known ≡ Some x) in
    let rest : Fml = fsep (flft κs.1.1.0 qs.1.1.0) ftrue in
    qed 𝓛 (((‵ (flft κs.0 qs.0) ⊛ ‵ (fsep (flft κ q) rest)) ⊛ ‵ (owns (types_at En.signature.params κs) a y.0.4))
    ∷ raw (fact 𝓤 (κs.1.1.0 ⊑ T.lives)) ∷ raw (fact 𝓤 Known) ∷ []) ∵
    move ! (2 ∷ []) $ heard ! Known (λ known. let x : T.Denot = known.0 in let e : n.known ≡ Some x = known.1 in
    let ks' : List (ℕ × T.Denot) = ks ++ (γ, x) ∷ [] in
    let Told : Type 0 = (n ≡ n) × ((v : T.Denot) × (n.known ≡ Some v) × (ks' ≡ ks ++ (γ, v) ∷ [])) in
    split ! $ split ! $ move ! (2 ∷ []) $ fsplit3 ! $ fsplit ! $ move ! (2 ∷ []) $ fsplit ! $
    keep ! (3 ∷ 1 ∷ 6 ∷ 5 ∷ []) $ unhide ! $ fsplit ! $ drop ! $
    enter ! 𝓣.C 𝓣.Λ fn (p ∷ vptr b o ∷ []) Post $ alloc_all ! (λ l. pass_all ! refl ((tt, tt), ((tt, tt), tt)) $
    -- [what is known of the cells; the note behind its borrow; the other tokens; the first one's token]
    move ! (2 ∷ []) $ fsplit ! $ move ! (3 ∷ 0 ∷ []) $
    use2 𝓛 (later (‵ (noted R γ n.known) ⊛ raw (all 𝓤 Shuts))) (notes.note_opens 𝓛 R κ q b o ν n) $ await ! tt $
    split ! $
    use1 𝓛 (‵ (noted R γ n.known) ⊛ ‵ (noted R γ n.known)) (notes.noted_twice 𝓛 R γ n.known) $ split ! $
    move ! (2 ∷ []) $ use1 𝓛 (raw (Shuts n)) (all_e 𝓤 Shuts n) $ move ! (1 ∷ 0 ∷ []) $
    use2 𝓛 (later (‵ (notes.lent 𝓛 R κ q b o ν n) ⊛ ‵ (flft κ q))) (apply∗ 𝓤 (sem 𝓛 (noted R γ n.known)) _) $
    await ! tt $ split ! $
    -- [the note in its borrow; the borrow's token; what it knows; the last token; what is known of the cells;
    -- the first token]
    feq_i ! (List Val) (vptr b o ∷ []) (vptr b o ∷ []) refl $ fjoin ! $ nothing ! $ move ! (1 ∷ 0 ∷ []) $
    fjoin ! $ nothing ! $ fjoin ! $
    move ! (1 ∷ 3 ∷ []) $ fjoin ! $ move ! (4 ∷ 0 ∷ []) $ join ! $ move ! (2 ∷ []) $
    rewrite ! 0 (λ (k : Option T.Denot). ‵ (noted R γ k)) e refl $ move ! (3 ∷ 0 ∷ []) $
    use2 𝓛 (‵ (all_noted R ks')) (one_more 𝓛 R ks γ x) $
    use1 𝓛 (‵ (F.own_val (facts_of R ks') (token ∷ []))) (facts_made 𝓛 R ks') $
    -- [the result; the tokens; the note]
    sets ! (agg ! (no_more !)) refl (tt, tt) $
    sets ! (agg ! (and_then ! (get ! refl) (no_more !))) refl (tt, (tt, tt)) $
    use0 𝓛 (raw (fact 𝓤 Told)) (fact_i 𝓤 Told (emp 𝓤) (refl, (x, e, refl))) $
    returns ! (look_at ! 0 refl) $ free_all ! refl $ keep ! (2 ∷ 3 ∷ 1 ∷ 0 ∷ []) $
    by ! (leaves 𝓛 En hs c y token (facts_of R ks') (tt, (n, tt)) (tt, (tt, tt))))))

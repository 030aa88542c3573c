-- What is known of a list of cells, and a `Facts` as a value. Assumes `Logic`.
use Rattle.std.proofs.Common.{◌≡◌, ℕ, zero, suc, List, [], ◌∷◌, ◌++◌, take, slice_get, refl, subst}
use Rattle.std.proofs.lemmas.Option.{none-some, same_Some}
use seplogic.Ra.Ura.{Ura}
use mir.Val.{Val, vstruct, vcons, vnil}
use base.Shift.{Keyless}
use base.Logic.{ent, sep, emp, via, id⊢, comm∗, assoc∗, mono_r, fst∗, snd∗, emp∗}
use types.Logic.{Logic, sem}
use types.Kit.{‵, ◌⊛◌, ◌$◌, ◌∵◌, !, qed, move, split, fsplit, fjoin, use0, use1, done}
use denote.RattleType.{RattleType}
use denote.Shadow.{makes_shadow}
use denote.Struct.Struct.{Struct}
use denote.Struct.Owning.{shape}
use Rattle.std.specs.declared.option.Option.TheVariants.{Some}
use Rattle.once_cell.specs.Once.{noted, mark}
use Rattle.fdb_book.specs.Facts.{all_noted}
use Rattle.fdb_book.specs.contracts.facts.Facts as Facts

abbrev pub token : Val
token = vstruct (vcons (vstruct vnil) vnil)

abbrev pub facts_of : (R : RattleType) → List (ℕ × R.Denot) → (Facts.the_row R).Denot
facts_of R ks = record { marker = record {}; known = ks }

-- what is known of cells says the same to every thread
pub all_keyless : (R : RattleType) (ks : List (ℕ × R.Denot)) → Keyless (all_noted R ks)
all_keyless R [] = tt
all_keyless R (k ∷ ks) = (tt, all_keyless R ks)

module _ {M : Type 1} {𝓤 : Ura M} (𝓛 : Logic 𝓤) (R : RattleType) where
  -- what is known of the cells can be had twice
  pub all_twice : (ks : List (ℕ × R.Denot))
      → ent 𝓤 (sem 𝓛 (all_noted R ks)) (sep 𝓤 (sem 𝓛 (all_noted R ks)) (sem 𝓛 (all_noted R ks)))
  all_twice [] = emp∗ 𝓤 (emp 𝓤)
  all_twice (k ∷ ks) = let N = noted R k.0 (Some k.1) in let A = all_noted R ks in
      qed 𝓛 (‵ (all_noted R (k ∷ ks)) ∷ []) ∵ fsplit ! $
      use1 𝓛 (‵ N ⊛ ‵ N) (𝓛.names.res_dup k.0 (mark R k.0 k.1)) $ split ! $ move ! (2 ∷ []) $
      use1 𝓛 (‵ A ⊛ ‵ A) (all_twice ks) $ split ! $ move ! (2 ∷ 0 ∷ []) $ fjoin ! $ move ! (2 ∷ 1 ∷ []) $
      fjoin ! $ done !

  -- what is known of the first n
  pub first_noted : (n : ℕ) (ks : List (ℕ × R.Denot)) → ent 𝓤 (sem 𝓛 (all_noted R ks)) (sem 𝓛 (all_noted R (take n ks)))
  first_noted zero ks = via 𝓤 (sep 𝓤 (emp 𝓤) (sem 𝓛 (all_noted R ks))) (emp∗ 𝓤 (sem 𝓛 (all_noted R ks)))
      (fst∗ 𝓤 (emp 𝓤) (sem 𝓛 (all_noted R ks)))
  first_noted (suc n) [] = id⊢ 𝓤 (emp 𝓤)
  first_noted (suc n) (k ∷ ks) = mono_r 𝓤 (sem 𝓛 (noted R k.0 (Some k.1))) (first_noted n ks)

  -- what is known of the cell at a place
  pub noted_at : (ks : List (ℕ × R.Denot)) (i γ : ℕ) (x : R.Denot) → slice_get ks i ≡ Some (γ, x)
      → ent 𝓤 (sem 𝓛 (all_noted R ks)) (sem 𝓛 (noted R γ (Some x)))
  noted_at [] i γ x e = absurd (none-some (γ, x) e)
  noted_at (k ∷ ks) zero γ x e = via 𝓤 (sem 𝓛 (noted R k.0 (Some k.1)))
      (fst∗ 𝓤 (sem 𝓛 (noted R k.0 (Some k.1))) (sem 𝓛 (all_noted R ks)))
      (subst (λ (j : ℕ × R.Denot). ent 𝓤 (sem 𝓛 (noted R k.0 (Some k.1))) (sem 𝓛 (noted R j.0 (Some j.1))))
      (same_Some k (γ, x) e) (id⊢ 𝓤 (sem 𝓛 (noted R k.0 (Some k.1)))))
  noted_at (k ∷ ks) (suc i) γ x e = via 𝓤 (sem 𝓛 (all_noted R ks))
      (snd∗ 𝓤 (sem 𝓛 (noted R k.0 (Some k.1))) (sem 𝓛 (all_noted R ks))) (noted_at ks i γ x e)

  -- what is known with one cell more
  pub one_more : (ks : List (ℕ × R.Denot)) (γ : ℕ) (x : R.Denot)
      → ent 𝓤 (sep 𝓤 (sem 𝓛 (all_noted R ks)) (sem 𝓛 (noted R γ (Some x)))) (sem 𝓛 (all_noted R (ks ++ (γ, x) ∷ [])))
  one_more [] γ x = comm∗ 𝓤 (emp 𝓤) (sem 𝓛 (noted R γ (Some x)))
  one_more (k ∷ ks) γ x = let N = sem 𝓛 (noted R k.0 (Some k.1)) in let A = sem 𝓛 (all_noted R ks) in
      let B = sem 𝓛 (noted R γ (Some x)) in
      via 𝓤 (sep 𝓤 N (sep 𝓤 A B)) (assoc∗ 𝓤 N A B) (mono_r 𝓤 N (one_more ks γ x))

  -- what is known makes a `Facts`
  pub facts_made : (ks : List (ℕ × R.Denot))
      → ent 𝓤 (sem 𝓛 (all_noted R ks)) (sem 𝓛 ((Facts.the_row R).own_val (facts_of R ks) (token ∷ [])))
  facts_made ks = let F = (Struct (shape (Facts.the_type R))).own_val (tt, tt) (token ∷ []) in
      qed 𝓛 (‵ (all_noted R ks) ∷ []) ∵
      use0 𝓛 (‵ F) (makes_shadow 𝓛 F (λ vss. (tt, ((λ uss. (tt, tt)), tt)))
      ((vstruct vnil ∷ [], tt), (refl, ((tt, (refl, tt)), tt)))) $
      done !

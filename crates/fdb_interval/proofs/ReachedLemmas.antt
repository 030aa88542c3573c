-- What the last breakpoint up to a point tells of the one there, and of those before it.
use Rattle.std.proofs.Common.{◌≡◌, ◌∙◌, sym, ap, refl, subst, Bool, true, false, [], ◌∷◌, ◌++◌, ◌⊎◌, inl, inr}
use Rattle.std.proofs.Common.{⊎_elim, None, Some}
use Rattle.std.specs.BTreeMap.Range.{entries_between}
use Rattle.std.specs.Cmp.Lexicographic.{slice_cmp}
use Rattle.std.specs.List.{AllByRecursion}
use Rattle.std.specs.Map.{lookup}
use Rattle.std.specs.Ordering.{nat_cmp}
use Rattle.std.specs.declared.ops.Bound.TheVariants.{Included, Excluded, Unbounded}
use Rattle.std.proofs.lemmas.Bool.{cases_Bool, and_from, not_from_false, not-true}
use Rattle.std.proofs.lemmas.Map.Entries.{lookup_head, lookup_tail}
use Rattle.fdb_keys.specs.Points.{Point, point_lt}
use Rattle.fdb_keys.proofs.Exports.{all-append, lt-itself, lt_chain, lt_one_way}
use Rattle.fdb_interval.specs.Breakpoints.{Breaks, AreRising}
use Rattle.fdb_interval.proofs.BreaksLemmas.{sift, sift-true, sift-false, sift-all, sift_twice, all-sift}
use Rattle.fdb_interval.proofs.BreaksLemmas.{rising-sift, all_imply, all_sooner, before, up_to, at, at-is, absorbed}
use Rattle.fdb_interval.proofs.BreaksLemmas.{before-is}
use Rattle.fdb_interval.proofs.PartsLemmas.{at_same, at_after}

-- a look-up finds the same in what a test picks that passes there
lookup-sift : {V : Type 0} (p : Point → Bool) (x : Point) → p x ≡ true → (es : Breaks V)
    → lookup (at x) (sift p es) ≡ lookup (at x) es
lookup-sift p x passes [] = refl
lookup-sift {V} p x passes (e ∷ es) = ⊎_elim
    (λ here.
    ap (lookup (at x)) (sift-true p e es (ap p (sym (at_same x e.0 here)) ∙ passes))
    ∙ lookup_head (at x) e (sift p es) here
    ∙ sym (lookup_head (at x) e es here))
    (λ there. elsewhere there (lookup-sift p x passes es) (cases_Bool (p e.0)))
    (cases_Bool (at x e.0))
  where
    elsewhere : at x e.0 ≡ false → lookup (at x) (sift p es) ≡ lookup (at x) es → (p e.0 ≡ true) ⊎ (p e.0 ≡ false)
        → lookup (at x) (sift p (e ∷ es)) ≡ lookup (at x) (e ∷ es)
    elsewhere there others (inl kept) =
        ap (lookup (at x)) (sift-true p e es kept)
        ∙ lookup_tail (at x) e (sift p es) there
        ∙ others
        ∙ sym (lookup_tail (at x) e es there)
    elsewhere there others (inr dropped) =
        ap (lookup (at x)) (sift-false p e es dropped) ∙ others ∙ sym (lookup_tail (at x) e es there)

-- and it passes what comes before
lookup-passing : {V : Type 0} (x : Point) (es fs : Breaks V)
    → AllByRecursion (λ (e : Point × V). point_lt e.0 x ≡ true) es → lookup (at x) (es ++ fs) ≡ lookup (at x) fs
lookup-passing x [] fs all = refl
lookup-passing x (e ∷ es) fs all =
    lookup_tail (at x) e (es ++ fs) (at_after x e.0 all.0) ∙ lookup-passing x es fs all.1

the_last : {V : Type 0} (P : Point × V → Type 0) (front : Breaks V) (e : Point × V)
    → AllByRecursion P (front ++ e ∷ []) → P e
the_last P [] e all = all.0
the_last P (f ∷ front) e all = the_last P front e all.1

module _ {V : Type 0} (es : Breaks V) (x : Point) where
  reached-is : entries_between (slice_cmp nat_cmp) Unbounded (Included x) es ≡ sift (up_to x) es
  unfolding point_lt
  reached-is = refl

  at_point : lookup (at x) (sift (up_to x) es) ≡ lookup (at x) es
  at_point = lookup-sift (up_to x) x (not_from_false _ (lt-itself x)) es

  ahead : entries_between (slice_cmp nat_cmp) Unbounded (Excluded x) es ≡ sift (before x) (sift (up_to x) es)
  ahead =
      sym (before-is es x)
      ∙ sym (sift_twice (before x) (up_to x) (before x)
      (λ y. absorbed (up_to x y) (before x y) (λ sooner. not_from_false _ (lt_one_way y x sooner))) es)

  -- where there is none
  module _ (found : entries_between (slice_cmp nat_cmp) Unbounded (Included x) es ≡ []) where
    pub absent-nowhere : lookup (at x) es ≡ None
    absent-nowhere = sym at_point ∙ ap (lookup (at x)) (sym reached-is ∙ found)

    pub ahead-nowhere : entries_between (slice_cmp nat_cmp) Unbounded (Excluded x) es ≡ []
    ahead-nowhere = ahead ∙ ap (sift (before x)) (sym reached-is ∙ found)

  module _ (front : Breaks V) (e : Point × V) (rising : AreRising es)
      (found : entries_between (slice_cmp nat_cmp) Unbounded (Included x) es ≡ front ++ e ∷ []) where
    reached : sift (up_to x) es ≡ front ++ e ∷ []
    reached = sym reached-is ∙ found

    sooner : AllByRecursion (λ (f : Point × V). point_lt f.0 e.0 ≡ true) front
    sooner = all_sooner front e [] (subst AreRising reached (rising-sift (up_to x) es rising))

    -- where it comes before the point
    module _ (short : point_lt e.0 x ≡ true) where
      front-short : AllByRecursion (λ (f : Point × V). point_lt f.0 x ≡ true) front
      front-short = all_imply (λ f. point_lt f.0 e.0 ≡ true) (λ f. point_lt f.0 x ≡ true)
          (λ f earlier. lt_chain f.0 e.0 x earlier short) front sooner

      pub absent-behind : lookup (at x) es ≡ None
      absent-behind =
          sym at_point
          ∙ ap (lookup (at x)) reached
          ∙ lookup-passing x front (e ∷ []) front-short
          ∙ lookup_tail (at x) e [] (at_after x e.0 short)

      pub ahead-reached : entries_between (slice_cmp nat_cmp) Unbounded (Excluded x) es ≡ front ++ e ∷ []
      ahead-reached =
          ahead
          ∙ ap (sift (before x)) reached
          ∙ sift-all (before x) (front ++ e ∷ [])
          (all-append (λ (f : Point × V). point_lt f.0 x ≡ true) front (e ∷ []) front-short (short, tt))

    -- where it is at the point
    pub present-there : point_lt e.0 x ≡ false → lookup (at x) es ≡ Some e.1
    present-there not_short =
        let by_point : point_lt x e.0 ≡ false =
        the_last (λ (f : Point × V). point_lt x f.0 ≡ false) front e
        (subst (AllByRecursion (λ (f : Point × V). point_lt x f.0 ≡ false)) reached
        (all-sift (up_to x) (λ y. point_lt x y ≡ false) (λ y passes. not-true _ passes) es)) in
        let here : at x e.0 ≡ true =
        sym (at-is x e.0) ∙ and_from _ _ (not_from_false _ not_short) (not_from_false _ by_point) in
        let same = at_same x e.0 here in
        sym at_point
        ∙ ap (lookup (at x)) reached
        ∙ lookup-passing x front (e ∷ []) (all_imply (λ f. point_lt f.0 e.0 ≡ true) (λ f. point_lt f.0 x ≡ true)
        (λ f earlier. ap (point_lt f.0) same ∙ earlier) front sooner)
        ∙ lookup_head (at x) e [] here

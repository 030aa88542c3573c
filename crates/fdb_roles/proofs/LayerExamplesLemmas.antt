-- Which transactions keep the layer in miniature.
use Rattle.std.proofs.Common.{◌≡◌, ◌∙◌, sym, ap, subst, refl, ℕ, Bool, true, false, List, [], ◌∷◌, Option, Some, None}
use Rattle.std.specs.Prelude.{codes}
use Rattle.std.specs.Cmp.Lexicographic.{slice_cmp}
use Rattle.std.specs.FinMap.{get, empty, get-empty}
use Rattle.std.specs.Ordering.{nat_cmp}
use Rattle.fdb_mutations.specs.Maps.{Map}
use Rattle.fdb_mutations.specs.Mutations.{effects}
use Rattle.fdb_mutations.specs.declared.mutation.Mutation.{Mutation}
use Rattle.fdb_txn.specs.rules.Stamped.{stamped_by}
use Rattle.fdb_txn.proofs.Exports.{get-effects}
use Rattle.fdb_client.specs.declared.program.Op.{Op}
use Rattle.fdb_client.specs.declared.program.Reply.{Reply}
use Rattle.fdb_client.specs.declared.program.Reply.TheVariants.{Value, Pairs, Done}
use Rattle.fdb_client.specs.declared.program.Transcript.{Transcript}
use Rattle.fdb_client.specs.ProgramLaws.{AgreeWhereOrdinary}
use Rattle.fdb_client.specs.Programs.{program, replies_of, exec, mutations_of}
use Rattle.fdb_roles.specs.Layers.{Keeps}
use Rattle.fdb_roles.specs.LayerExamples.{Agree, WorkedLayers, IsCopying, IsForgetful, IsSettingBoth, IsStampingBoth}
use Rattle.fdb_roles.specs.LayerExamples.{copying, setting, stamping}

-- what these operations write, stamped so
abbrev written : ℕ → ℕ → List (Op × Reply) → List Mutation
written version place ops = stamped_by version place (mutations_of (program ops))

-- so what stands at both keys of a map that agrees afterwards is the same
agree-left : (map : Map) (version place : ℕ) (transcript : Transcript) (ops : List (Op × Reply)) → transcript.ops ≡ ops
    → Agree (effects map (written version place ops)) → Agree (effects map (written version place transcript.ops))
agree-left map version place transcript ops is agree =
    subst (λ (ops : List (Op × Reply)). Agree (effects map (written version place ops))) (sym is) agree

both-set : Keeps IsSettingBoth Agree
both-set map transcript version place (value, is) answered agree =
    agree-left map version place transcript (setting (codes "a") value ∷ setting (codes "b") value ∷ []) is
    (get-effects map mutations (codes "a") ∙ sym (get-effects map mutations (codes "b")))
  where
    mutations : List Mutation
    mutations = written version place (setting (codes "a") value ∷ setting (codes "b") value ∷ [])

both-stamped : Keeps IsStampingBoth Agree
both-stamped map transcript version place is answered agree =
    agree-left map version place transcript (stamping (codes "a") ∷ stamping (codes "b") ∷ []) is
    (get-effects map mutations (codes "a") ∙ sym (get-effects map mutations (codes "b")))
  where
    mutations : List Mutation
    mutations = written version place (stamping (codes "a") ∷ stamping (codes "b") ∷ [])

value-of : Reply → Option (List ℕ)
value-of (Value value) = value
value-of (Pairs pairs) = None
value-of Done = None

copied : Keeps (IsCopying false) Agree
unfolding value-of
copied map transcript version place (value, is) answered agree =
    agree-left map version place transcript (copying false value) is
    (get-effects map mutations (codes "a") ∙ sym read ∙ sym (get-effects map mutations (codes "b")))
  where
    mutations : List Mutation
    mutations = written version place (copying false value)

    by_ops : AgreeWhereOrdinary (program (copying false value)) (replies_of (copying false value))
        (exec map (program (copying false value)))
    by_ops = subst (λ (ops : List (Op × Reply)). AgreeWhereOrdinary (program ops) (replies_of ops)
        (exec map (program ops))) is answered

    read : Some value ≡ get map (codes "a")
    read = ap value-of (by_ops.1.0 refl)

-- session 0's transaction at version 0
abbrev of_ops : List (Op × Reply) → Transcript
of_ops ops = record { id = record { session = 0; number = 0 }; read_version = 0; ops = ops }

abbrev empty_map : Map
empty_map = empty

nothing-at : (key : List ℕ) → get empty_map key ≡ None
nothing-at key = get-empty {X = List ℕ} (slice_cmp nat_cmp) key

-- nothing stands at either key of the empty map
none-agree : Agree empty
none-agree = nothing-at (codes "a") ∙ sym (nothing-at (codes "b"))

snapshot-copied : Keeps (IsCopying true) Agree → ⊥
snapshot-copied keeps =
    let agree = keeps empty (of_ops (copying true (codes "1"))) 0 0 (codes "1", refl)
    ((λ ordinary. refl), ((λ ordinary. cc), tt)) none-agree in
    let wrong : None ≡ Some (codes "1") =
    sym (get-effects empty (written 0 0 (copying true (codes "1"))) (codes "a") ∙ nothing-at (codes "a"))
    ∙ agree ∙ get-effects empty (written 0 0 (copying true (codes "1"))) (codes "b") in cc

copy-forgotten : Keeps IsForgetful Agree → ⊥
copy-forgotten keeps =
    let ops = setting (codes "a") (codes "1") ∷ [] in
    let agree = keeps empty (of_ops ops) 0 0 (codes "1", refl) ((λ ordinary. refl), tt) none-agree in
    let wrong : Some (codes "1") ≡ None =
    sym (get-effects empty (written 0 0 ops) (codes "a"))
    ∙ agree ∙ get-effects empty (written 0 0 ops) (codes "b") ∙ nothing-at (codes "b") in cc

pub worked_layers : WorkedLayers
worked_layers = (both-set, both-stamped, copied, snapshot-copied, copy-forgotten)

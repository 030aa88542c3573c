-- A log of which a tag was popped.
use Rattle.std.proofs.Common.{◌≡◌, ◌∙◌, sym, ap, subst, refl, ℕ, ◌+◌, ◌<◌, ◌≤◌, max, true, false, not, List, length}
use Rattle.std.proofs.Common.{get_or, ⊎_elim, arith}
use Rattle.std.specs.Prelude.{◌==◌, slice_get, slice_set, filter, count_by}
use Rattle.std.specs.List.{AllByRecursion}
use Rattle.std.specs.Option.{unwrap_or}
use Rattle.std.proofs.lemmas.Bool.{cases_Bool, eqb-true, eqb-false, ne_eqb, true≢false}
use Rattle.std.proofs.lemmas.List.{get_or-set_same, get_or-set_other, length-set}
use Rattle.std.proofs.lemmas.Option.{unwrap_or-slice_get, slice_get_read}
use Rattle.fdb_keys.proofs.Exports.{all-filter, all-weaken}
use Rattle.fdb_txn.specs.declared.tag_msg.TagMsg.{TagMsg}
use Rattle.fdb_log.specs.Logs.{Log, IsLog, HasPopped, keeps, kept, popped_through}
use Rattle.fdb_log.specs.Messages.{above}
use Rattle.fdb_log.specs.Peeks.{RiseAfter, through_after}
use Rattle.fdb_log.specs.Waiting.{Waiting, waits, waits_for_alone}
use Rattle.fdb_log.proofs.FaultLemmas.{Speaks}
use Rattle.fdb_log.proofs.RisingLemmas.{rises-above-from, through-above}
use Rattle.fdb_log.proofs.ToldLemmas.{set-same, set-other}
use Rattle.fdb_log.proofs.WaitingLemmas.{all-passing, counts-apart, leaves-or_stays}

-- the log with the tag popped through a version, its queue, and what waits
abbrev pub with_popped : Log → (tag version : ℕ) → List TagMsg → List Waiting → Log
with_popped core tag version queue waiting =
    record core {
      popped = slice_set core.popped tag version;
      queues = slice_set core.queues tag queue;
      waiting = waiting;
    }

-- what stands at the tag's place is the version through which it was popped
found-is : (core : Log) (tag found : ℕ) → tag < length core.popped → found ≡ get_or core.popped tag found
    → popped_through core tag ≡ found
found-is core tag found within is =
    ap (λ version. unwrap_or version 0) (slice_get_read core.popped (length core.popped) tag found refl within is)

-- the version through which the tag, and every other tag, is popped then
pub popped-here : (popped : List ℕ) (tag found value through : ℕ) → tag < length popped
    → found ≡ get_or popped tag found → value ≡ max found through
    → unwrap_or (slice_get (slice_set popped tag value) tag) 0 ≡ max (unwrap_or (slice_get popped tag) 0) through
popped-here popped tag found value through within reads sets =
    unwrap_or-slice_get (slice_set popped tag value) tag 0
    ∙ get_or-set_same popped tag value 0 within
    ∙ sets
    ∙ ap (λ (version : ℕ). max version through)
    (sym (ap (λ version. unwrap_or version 0) (slice_get_read popped (length popped) tag found refl within reads)))

pub popped-other : (popped : List ℕ) (tag value other : ℕ) → (other == tag) ≡ false
    → unwrap_or (slice_get (slice_set popped tag value) other) 0 ≡ unwrap_or (slice_get popped other) 0
popped-other popped tag value other apart =
    unwrap_or-slice_get (slice_set popped tag value) other 0
    ∙ get_or-set_other popped tag other value 0 (eqb-false other tag apart)
    ∙ sym (unwrap_or-slice_get popped other 0)

-- a tag at whose place stands no version above one was popped through none above it
pub popped_through-le : (core now : Log) (tag after found : ℕ) → core ≡ now → IsLog core → Speaks now tag after
    → found ≡ get_or core.popped tag found → found ≤ after → popped_through now tag ≤ after
popped_through-le core now tag after found view is_log speaks reads low =
    let tags : core.tags ≡ now.tags = ap (λ (log : Log). log.tags) view in
    let tagged : length core.popped ≡ core.tags = is_log.tagged in
    let kept_here : tag < now.tags = speaks.within in
    let found_is : popped_through core tag ≡ found = found-is core tag found (omega arith) reads in
    let same : popped_through core tag ≡ popped_through now tag = ap (λ (log : Log). popped_through log tag) view in
    omega arith

-- A log that speaks of the tag and the version, with the greater of the version and what stands at the tag's place, and
-- with what is left of the tag's queue and of what waits.
pub record Pops (core : Log) (tag through found value : ℕ) (queue : List TagMsg) (waiting : List Waiting) : Type 0
  where
    pub is_log : IsLog core
    pub speaks : Speaks core tag through
    pub reads : found ≡ get_or core.popped tag found
    pub sets : value ≡ max found through
    pub drops : (low : ℕ) → RiseAfter low (kept core tag) → queue ≡ above through (kept core tag)
    pub releases : waiting
        ≡ filter (waits (popped_through (with_popped core tag value queue waiting))) core.waiting

module _ (core : Log) (tag through found value : ℕ) (queue : List TagMsg) (waiting : List Waiting)
    (pops : Pops core tag through found value queue waiting) where
  abbrev new : Log
  new = with_popped core tag value queue waiting

  has-place : tag < length core.popped
  has-place =
      let tagged : length core.popped ≡ core.tags = pops.is_log.tagged in
      let kept_here : tag < core.tags = pops.speaks.within in
      omega arith

  has-queue : tag < length core.queues
  has-queue =
      let queued : length core.queues ≡ core.tags = pops.is_log.queued in
      let kept_here : tag < core.tags = pops.speaks.within in
      omega arith

  own-popped : popped_through new tag ≡ max (popped_through core tag) through
  own-popped = popped-here core.popped tag found value through has-place pops.reads pops.sets

  others-popped : (other : ℕ) → (other == tag) ≡ false → popped_through new other ≡ popped_through core other
  others-popped other apart = popped-other core.popped tag value other apart

  rising-before : RiseAfter (popped_through core tag) (kept core tag)
  rising-before = pops.is_log.rising pops.speaks.works tag pops.speaks.here

  kept-here : kept new tag ≡ above through (kept core tag)
  kept-here =
      set-same core.queues tag queue has-queue ∙ pops.drops (popped_through core tag) rising-before

  kept-other : (other : ℕ) → (other == tag) ≡ false → kept new other ≡ kept core other
  kept-other other apart = set-other core.queues tag other queue apart

  rising-here : RiseAfter (popped_through new tag) (kept new tag)
  rising-here =
      let from : popped_through new tag ≤ max through (popped_through core tag) = omega (arith, own-popped) in
      subst (RiseAfter (popped_through new tag)) (sym kept-here)
      (rises-above-from (popped_through core tag) through (popped_through new tag) (kept core tag) rising-before from)

  through-here : through_after (popped_through new tag) (kept new tag) ≡ core.last
  through-here =
      let last : through_after (popped_through core tag) (kept core tag) ≡ core.last =
      pops.is_log.through pops.speaks.works tag pops.speaks.here in
      let taken : through ≤ core.last = pops.speaks.taken in
      ap (through_after (popped_through new tag)) kept-here
      ∙ ap (λ (version : ℕ). through_after version (above through (kept core tag))) own-popped
      ∙ through-above (popped_through core tag) through (kept core tag) rising-before (omega arith)
      ∙ last

  -- the log that pops it keeps its invariant
  pub is_log-popped : IsLog new
  is_log-popped =
      record {
        number = pops.is_log.number;
        few = pops.is_log.few;
        few_tags = pops.is_log.few_tags;
        tagged = length-set core.popped tag value ∙ pops.is_log.tagged;
        queued = length-set core.queues tag queue ∙ pops.is_log.queued;
        within = λ works other.
            let before : popped_through core other ≤ core.last = pops.is_log.within works other in
            let own : popped_through core tag ≤ core.last = pops.is_log.within works tag in
            let taken : through ≤ core.last = pops.speaks.taken in
            ⊎_elim
            (λ same.
            subst (λ (it : ℕ). popped_through new it ≤ core.last) (sym (eqb-true other tag same))
            (omega (arith, own-popped)))
            (λ apart. omega (arith, others-popped other apart))
            (cases_Bool (other == tag));
        rising = λ works other here.
            ⊎_elim
            (λ same.
            subst (λ (it : ℕ). RiseAfter (popped_through new it) (kept new it)) (sym (eqb-true other tag same))
            rising-here)
            (λ apart.
            subst (λ (version : ℕ). RiseAfter version (kept new other)) (sym (others-popped other apart))
            (subst (RiseAfter (popped_through core other)) (sym (kept-other other apart))
            (pops.is_log.rising works other here)))
            (cases_Bool (other == tag));
        through = λ works other here.
            ⊎_elim
            (λ same.
            subst (λ (it : ℕ). through_after (popped_through new it) (kept new it) ≡ core.last)
            (sym (eqb-true other tag same)) through-here)
            (λ apart.
            ap (λ (version : ℕ). through_after version (kept new other)) (others-popped other apart)
            ∙ ap (through_after (popped_through core other)) (kept-other other apart)
            ∙ pops.is_log.through works other here)
            (cases_Bool (other == tag));
        taken = λ works.
            subst (AllByRecursion (λ (one : Waiting). one.0.0 ≤ core.last)) (sym pops.releases)
            (all-filter (λ (one : Waiting). one.0.0 ≤ core.last) (waits (popped_through new)) core.waiting
            (pops.is_log.taken works));
        waiting = λ works.
            subst (AllByRecursion (λ (one : Waiting). waits (popped_through new) one ≡ true)) (sym pops.releases)
            (all-passing (λ (one : Waiting). one.0.0 ≤ core.last)
            (λ (one : Waiting). waits (popped_through new) one ≡ true) (waits (popped_through new)) core.waiting
            (λ one passes within. passes) (pops.is_log.taken works));
        own_alone = λ works other left.
            kept-other other
            (ne_eqb other tag
            (λ same. absurd (true≢false (sym pops.speaks.here ∙ ap (keeps core) (sym same) ∙ left))))
            ∙ pops.is_log.own_alone works other left;
      }

  leaves-or_stays-each : (some : List Waiting)
      → AllByRecursion (λ (one : Waiting). waits (popped_through core) one ≡ true) some
      → AllByRecursion (λ (one : Waiting). waits_for_alone (popped_through core) tag through one
      ≡ not (waits (popped_through new) one)) some
  leaves-or_stays-each some =
      all-weaken (λ (one : Waiting). waits (popped_through core) one ≡ true)
      (λ (one : Waiting). waits_for_alone (popped_through core) tag through one ≡ not (waits (popped_through new) one))
      (λ one waited.
      leaves-or_stays (popped_through core) (popped_through new) tag through own-popped others-popped one waited)
      some

  pub has_popped-itself : HasPopped core tag through new
  has_popped-itself =
      record {
        same = record { log = refl; logs = refl; tags = refl };
        last = refl;
        works = pops.speaks.works;
        popped = own-popped;
        dropped = kept-here;
        others_popped = others-popped;
        others_kept = kept-other;
        waiting = pops.releases;
        held =
            ap (λ (list : List Waiting). length list
            + count_by (waits_for_alone (popped_through core) tag through) core.waiting) pops.releases
            ∙ counts-apart (waits (popped_through new)) (waits_for_alone (popped_through core) tag through) core.waiting
            (leaves-or_stays-each core.waiting (pops.is_log.waiting pops.speaks.works));
      }

-- and has popped it
pub has_popped : (core now : Log) (tag through found value : ℕ) (queue : List TagMsg) (waiting : List Waiting)
    → core ≡ now → Pops core tag through found value queue waiting
    → HasPopped now tag through (with_popped core tag value queue waiting)
has_popped core now tag through found value queue waiting view pops =
    subst (λ (log : Log). HasPopped log tag through (with_popped core tag value queue waiting)) view
    (has_popped-itself core tag through found value queue waiting pops)

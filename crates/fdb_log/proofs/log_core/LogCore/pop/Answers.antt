use Rattle.std.proofs.Common.{◌≡◌, ◌∙◌, sym, ap, subst, ℕ, ◌<◌, false, List, length, arith}
use Rattle.std.specs.Prelude.{filter, slice_get, slice_set}
use Rattle.std.specs.Option.{unwrap_or}
use Rattle.std.proofs.lemmas.List.{length-set}
use Rattle.fdb_txn.specs.declared.tag_msg.TagMsg.{TagMsg}
use Rattle.fdb_log.specs.Logs.{Log, keeps, tag_fault}
use Rattle.fdb_log.specs.Messages.{above}
use Rattle.fdb_log.specs.Peeks.{RiseAfter}
use Rattle.fdb_log.specs.Places.{Holding, AreListed, list_at, places_above}
use Rattle.fdb_log.specs.Waiting.{waits}
use Rattle.fdb_log.proofs.FaultLemmas.{Speaks, tag_fault-none, faultless}
use Rattle.fdb_log.proofs.ListedLemmas.{leave-popped, listed-popped}
use Rattle.fdb_log.proofs.PopLemmas.{Pops, is_log-popped, has_popped, popped-here, popped-other}
use Rattle.fdb_log.proofs.ToldLemmas.{read-at}
use Rattle.fdb_log.proofs.log_core.LogCore.pop.Goals as goal

pub release-requires : goal.release-requires
release-requires c =
    let tag = c.args.tag in
    let through = c.args.through in
    let popped = c.self.inside.popped.items in
    let speaks : Speaks c.args.self.now tag through =
    tag_fault-none c.args.self.now tag through _ c.in_ok-check_tag.ensures in
    let works : c.self.inside.is_failed ≡ false = ap (λ (core : Log). core.is_failed) c.self.view_is ∙ speaks.works in
    let tags : c.self.inside.keeper.tags ≡ c.args.self.now.tags = ap (λ (core : Log). core.tags) c.self.view_is in
    let kept_here = ap (λ (core : Log). keeps core tag) c.self.view_is ∙ speaks.here in
    let listed = c.self.invariant.listed works in
    let place : tag < length popped = omega (arith, c.self.invariant.is_log.tagged, speaks.within, tags) in
    record {
      within = omega (arith, c.self.invariant.placed works, speaks.within, tags);
      rising = (c.self.inside.last, listed.rising tag kept_here);
      leaves =
          leave-popped _ (λ (it : ℕ). unwrap_or (slice_get popped it) 0)
          (λ (it : ℕ). unwrap_or (slice_get c.deref.result.now it) 0) c.self.inside.last tag through c.self.inside.held
          (ap (λ (list : List ℕ). unwrap_or (slice_get list tag) 0) c.deref.ensures.value
          ∙ popped-here popped tag c.index_mut-popped.result.now c.max.result through place
          c.index_mut-popped.ensures.value c.max.ensures)
          (λ other apart.
          ap (λ (list : List ℕ). unwrap_or (slice_get list other) 0) c.deref.ensures.value
          ∙ popped-other popped tag c.max.result other apart)
          kept_here (c.self.invariant.is_log.waiting works) listed;
    }

-- what is left of what was held
released : (c : goal.After-release) → c.release.new.self
    ≡ record {
      places =
          slice_set c.self.inside.held.places c.args.tag
          (places_above c.args.through (list_at c.self.inside.held.places c.args.tag));
      waiting =
          filter
          (waits (λ (tag : ℕ). unwrap_or (slice_get (slice_set c.self.inside.popped.items c.args.tag c.max.result) tag)
          0))
          c.self.inside.held.waiting;
    }
released c =
    c.release.ensures
    ∙ ap (λ (popped : List ℕ). record {
      places =
          slice_set c.self.inside.held.places c.args.tag
          (places_above c.args.through (list_at c.self.inside.held.places c.args.tag));
      waiting = filter (waits (λ (tag : ℕ). unwrap_or (slice_get popped tag) 0)) c.self.inside.held.waiting;
    }) c.deref.ensures.value

pops : (c : goal.After-release)
    → Pops
    (record {
      log = c.self.inside.keeper.log;
      logs = c.self.inside.keeper.logs;
      tags = c.self.inside.keeper.tags;
      last = c.self.inside.last;
      is_failed = c.self.inside.is_failed;
      popped = c.self.inside.popped.items;
      queues = c.self.inside.queues.items;
      waiting = c.self.inside.held.waiting;
    }) c.args.tag c.args.through c.index_mut-popped.result.now c.max.result c.pop_through.new.self
    c.release.new.self.waiting
pops c =
    let speaks : Speaks c.args.self.now c.args.tag c.args.through =
    tag_fault-none c.args.self.now c.args.tag c.args.through _ c.in_ok-check_tag.ensures in
    let tags : c.self.inside.keeper.tags ≡ c.args.self.now.tags = ap (λ (core : Log). core.tags) c.self.view_is in
    let within : c.args.tag < length c.self.inside.queues.items =
    omega (arith, c.self.invariant.is_log.queued, speaks.within, tags) in
    let queue : c.index_mut-queue.result.now ≡ list_at c.self.inside.queues.items c.args.tag =
    c.index_mut-queue.ensures.value
    ∙ read-at c.self.inside.queues.items c.args.tag c.index_mut-queue.result.now within in
    record {
      is_log = c.self.invariant.is_log;
      speaks = subst (λ (core : Log). Speaks core c.args.tag c.args.through) (sym c.self.view_is) speaks;
      reads = c.index_mut-popped.ensures.value;
      sets = c.max.ensures;
      drops = λ low rising.
          c.pop_through.ensures low (subst (λ (list : List TagMsg). RiseAfter low list) (sym queue) rising)
          ∙ ap (above c.args.through) queue;
      releases = ap (λ (held : Holding). held.waiting) (released c);
    }

pub invariant_of-self : goal.invariant_of-self
invariant_of-self c =
    let tag = c.args.tag in
    let popped = c.self.inside.popped.items in
    let speaks : Speaks c.args.self.now tag c.args.through =
    tag_fault-none c.args.self.now tag c.args.through _ c.in_ok-check_tag.ensures in
    let tags : c.self.inside.keeper.tags ≡ c.args.self.now.tags = ap (λ (core : Log). core.tags) c.self.view_is in
    let kept_here = ap (λ (core : Log). keeps core tag) c.self.view_is ∙ speaks.here in
    let place : tag < length popped = omega (arith, c.self.invariant.is_log.tagged, speaks.within, tags) in
    record {
      is_log = is_log-popped _ tag c.args.through c.index_mut-popped.result.now c.max.result _ _ (pops c);
      placed = λ works.
          ap (λ (held : Holding). length held.places) (released c)
          ∙ length-set c.self.inside.held.places tag _
          ∙ c.self.invariant.placed works;
      listed = λ works.
          let within : tag < length c.self.inside.held.places =
          omega (arith, c.self.invariant.placed works, speaks.within, tags) in
          subst
          (AreListed _
          (λ (it : ℕ). unwrap_or (slice_get (slice_set popped tag c.max.result) it) 0)
          c.self.inside.last)
          (sym (released c))
          (listed-popped _ (λ (it : ℕ). unwrap_or (slice_get popped it) 0)
          (λ (it : ℕ). unwrap_or (slice_get (slice_set popped tag c.max.result) it) 0) c.self.inside.last tag
          c.args.through c.self.inside.held
          (popped-here popped tag c.index_mut-popped.result.now c.max.result c.args.through place
          c.index_mut-popped.ensures.value c.max.ensures)
          (popped-other popped tag c.max.result) kept_here (c.self.invariant.is_log.waiting works)
          (c.self.invariant.listed works) within);
    }

pub returns-clause-answers : goal.returns-clause-answers
returns-clause-answers c =
    faultless _ _ (tag_fault c.args.self.now c.args.tag c.args.through) _ _ c.in_ok-check_tag.ensures
    (has_popped _ c.args.self.now c.args.tag c.args.through c.index_mut-popped.result.now c.max.result _ _
    c.self.view_is (pops c))

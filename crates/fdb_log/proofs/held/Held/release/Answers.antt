use Rattle.std.proofs.Common.{◌≡◌, ◌∙◌, sym, ap, ap₂, subst, ℕ, ◌<◌, List, length, get_or, arith}
use Rattle.std.specs.Prelude.{filter, slice_get, slice_set}
use Rattle.std.specs.Option.{unwrap_or}
use Rattle.fdb_log.specs.Places.{Holding, AreRising, list_at, places_above}
use Rattle.fdb_log.specs.Waiting.{Waiting, waits}
use Rattle.fdb_log.proofs.ListedLemmas.{LeaveThrough}
use Rattle.fdb_log.proofs.ToldLemmas.{read-at}
use Rattle.fdb_log.proofs.held.Held.release.Goals as goal

places-is : (inside now : List (List (ℕ × ℕ))) (tag : ℕ) (read : List (ℕ × ℕ)) → inside ≡ now → tag < length now
    → read ≡ get_or inside tag read → read ≡ list_at now tag
places-is inside now tag read view within is =
    let there : tag < length inside = omega (arith, ap length view) in
    is ∙ read-at inside tag read there ∙ ap (λ (lists : List (List (ℕ × ℕ))). list_at lists tag) view

pub release_through-requires : goal.release_through-requires
release_through-requires c =
    let test = waits (λ (tag : ℕ). unwrap_or (slice_get c.args.popped.now tag) 0) in
    let at : c.index_mut-places.result.now ≡ list_at c.args.self.now.places c.args.tag =
    places-is c.self.inside.places.items c.args.self.now.places c.args.tag c.index_mut-places.result.now
    (ap (λ (held : Holding). held.places) c.self.view_is) c.requires.within c.index_mut-places.ensures.value in
    record {
      rising = (c.requires.rising.0, subst (AreRising c.requires.rising.0) (sym at) c.requires.rising.1);
      leaves =
          subst (λ (items : List Waiting). LeaveThrough test c.args.through c.index_mut-places.result.now items)
          (sym (ap (λ (held : Holding). held.waiting) c.self.view_is))
          (subst (λ (places : List (ℕ × ℕ)). LeaveThrough test c.args.through places c.args.self.now.waiting) (sym at)
          c.requires.leaves);
    }

pub returns : goal.returns
returns c =
    let test = waits (λ (tag : ℕ). unwrap_or (slice_get c.args.popped.now tag) 0) in
    let at : c.index_mut-places.result.now ≡ list_at c.args.self.now.places c.args.tag =
    places-is c.self.inside.places.items c.args.self.now.places c.args.tag c.index_mut-places.result.now
    (ap (λ (held : Holding). held.places) c.self.view_is) c.requires.within c.index_mut-places.ensures.value in
    let places : slice_set c.self.inside.places.items c.args.tag c.release_through.new.places
    ≡ slice_set c.args.self.now.places c.args.tag
    (places_above c.args.through (list_at c.args.self.now.places c.args.tag)) =
    ap₂ (λ (lists : List (List (ℕ × ℕ))) (own : List (ℕ × ℕ)). slice_set lists c.args.tag own)
    (ap (λ (held : Holding). held.places) c.self.view_is)
    (c.release_through.ensures.places ∙ ap (places_above c.args.through) at) in
    let waiting : c.release_through.new.tags.entries ≡ filter test c.args.self.now.waiting =
    c.release_through.ensures.waiting
    ∙ ap (filter test) (ap (λ (held : Holding). held.waiting) c.self.view_is) in
    ap₂ (λ (lists : List (List (ℕ × ℕ))) (items : List Waiting). record { places = lists; waiting = items }) places
    waiting

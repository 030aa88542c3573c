-- Words that write a configuration, and pieces that write texts.
use Rattle.std.proofs.Common.{◌≡◌, refl, ℕ, ◌+◌, ◌<◌, Bool, true, false, ◌||◌, List, [], ◌∷◌, ◌++◌, Option, Some, None}
use Rattle.std.proofs.Common.{length, take, get_or, subst, ap, sym, ◌∙◌, if◌then◌else◌, codes}
use Rattle.std.specs.List.{AllZip, list_any}
use Rattle.std.specs.Option.{option_or}
use Rattle.std.proofs.lemmas.Bool.{or_from}
use Rattle.std.proofs.lemmas.List.{take_more}
use Rattle.std.proofs.lemmas.List.Elements.{AllZip-push, AllZip-get_or}
use Rattle.std.proofs.lemmas.List.Folds.{list_any-append}
use Rattle.fdb_proxy.specs.declared.config.Config.{Config}
use Rattle.fdb_keys.specs.declared.refusal.Refusal.{Refusal}
use Rattle.fdb_keys.specs.declared.refusal.Refusal.TheVariants.{KeyTooLarge, KeyOutsideLegalRange}
use Rattle.fdb_keys.specs.Texts.{begins_with_ff, key_fault}
use Rattle.fdb_play.specs.script.Configs.{WritesConfig, WritesOutline, WritesSplits, first_fault, is_too_long}
use Rattle.fdb_play.specs.script.Configs.{line_fault, splits_fault}
use Rattle.fdb_play.specs.script.Grammar.{WritesText}
use Rattle.fdb_play.specs.script.Words.{words_of}

-- the words of an outline after the number of logs, and after the resolvers' splits
pub after_logs : (line w1 w2 w3 : List (List ℕ)) (a b : List ℕ) (p l k : ℕ) (x y : List ℕ) → line ≡ codes "config" ∷ w1
    → w1 ≡ codes "proxies" ∷ a ∷ w2 → w2 ≡ codes "logs" ∷ b ∷ w3 → (o : WritesOutline line p l x y k)
    → w3 ≡ codes "resolvers" ∷ x ∷ codes "shards" ∷ y ∷ codes "book" ∷ o.2 ∷ []
after_logs line w1 w2 w3 a b p l k x y first second third o = let is = o.3 in cc

pub after_resolvers : (line w1 w2 w3 w4 : List (List ℕ)) (a b r : List ℕ) (p l k : ℕ) (x y : List ℕ)
    → line ≡ codes "config" ∷ w1 → w1 ≡ codes "proxies" ∷ a ∷ w2 → w2 ≡ codes "logs" ∷ b ∷ w3
    → w3 ≡ codes "resolvers" ∷ r ∷ w4 → (o : WritesOutline line p l x y k)
    → w4 ≡ codes "shards" ∷ y ∷ codes "book" ∷ o.2 ∷ []
after_resolvers line w1 w2 w3 w4 a b r p l k x y first second third fourth o = let is = o.3 in cc

-- the words that stand for splits are those of the line
same_resolvers : (words : List (List ℕ)) (p l k p' l' k' : ℕ) (x y x' y' : List ℕ) → WritesOutline words p l x y k
    → WritesOutline words p' l' x' y' k' → x ≡ x'
same_resolvers words p l k p' l' k' x y x' y' o o' = ap (λ (ws : List (List ℕ)). get_or ws 6 []) (sym o.3 ∙ o'.3)

same_shards : (words : List (List ℕ)) (p l k p' l' k' : ℕ) (x y x' y' : List ℕ) → WritesOutline words p l x y k
    → WritesOutline words p' l' x' y' k' → y ≡ y'
same_shards words p l k p' l' k' x y x' y' o o' = ap (λ (ws : List (List ℕ)). get_or ws 8 []) (sym o.3 ∙ o'.3)

-- one more piece writes one more text
pub texts_more : (pieces texts : List (List ℕ)) (n : ℕ) (piece text : List ℕ) → n < length pieces
    → piece ≡ get_or pieces n piece → AllZip WritesText (take n pieces) texts → WritesText piece text
    → AllZip WritesText (take (n + 1) pieces) (texts ++ text ∷ [])
texts_more pieces texts n piece text within is so_far writes =
    let more : take (n + 1) pieces ≡ take n pieces ++ piece ∷ [] = take_more pieces n piece within
    ∙ ap (λ (p : List ℕ). take n pieces ++ p ∷ []) (sym is) in
    rw more (AllZip-push WritesText (take n pieces) texts piece text so_far writes)

-- a piece that is no text
pub no_texts : (pieces : List (List ℕ)) (n : ℕ) (piece : List ℕ) → n < length pieces → piece ≡ get_or pieces n piece
    → ((text : List ℕ) → ¬ WritesText piece text) → (texts : List (List ℕ)) → ¬ AllZip WritesText pieces texts
no_texts pieces n piece within is none texts written =
    none (get_or texts n [])
    (subst (λ p. WritesText p (get_or texts n [])) (sym is)
    (AllZip-get_or WritesText pieces texts n piece [] written within))

-- ---- splits that are refused

-- one text more, of which none is too long
text_more : (long more ff others : Bool) (first : Option Refusal) → (long || more) ≡ false
    → (more ≡ false → (if more then Some KeyTooLarge else (if others then Some KeyOutsideLegalRange else None)) ≡ first)
    → (if (long || more) then Some KeyTooLarge else (if (ff || others) then Some KeyOutsideLegalRange else None))
    ≡ option_or (if long then Some KeyTooLarge else (if ff then Some KeyOutsideLegalRange else None)) first
text_more true more ff others first none same = cc
text_more false more true others first none same = rw none refl
text_more false more false others first none same = same none

-- where no text is too long, the first one that is no key begins with FF
first_of_short : (texts : List (List ℕ)) → list_any is_too_long texts ≡ false → splits_fault texts ≡ first_fault texts
first_of_short [] none = refl
first_of_short (text ∷ texts) none =
    text_more (is_too_long text) (list_any is_too_long texts) (begins_with_ff text) (list_any begins_with_ff texts)
    (first_fault texts) none (first_of_short texts)

or_assoc : (a b c : Option Refusal) → option_or a (option_or b c) ≡ option_or (option_or a b) c
or_assoc None b c = refl
or_assoc (Some why) b c = refl

first_of_both : (texts more : List (List ℕ))
    → first_fault (texts ++ more) ≡ option_or (first_fault texts) (first_fault more)
first_of_both [] more = refl
first_of_both (text ∷ texts) more =
    ap (λ fault. option_or (key_fault text) fault) (first_of_both texts more)
    ∙ or_assoc (key_fault text) (first_fault texts) (first_fault more)

-- the first split that is no key, where none is too long
pub short_splits : (resolvers shards : List (List ℕ)) → list_any is_too_long resolvers ≡ false
    → list_any is_too_long shards ≡ false
    → splits_fault (resolvers ++ shards) ≡ option_or (first_fault resolvers) (first_fault shards)
short_splits resolvers shards one other =
    first_of_short (resolvers ++ shards)
    (list_any-append is_too_long resolvers shards
    ∙ or_from (list_any is_too_long resolvers) (list_any is_too_long shards) one other)
    ∙ first_of_both resolvers shards

-- some split is too long
pub long_splits : (resolvers shards : List (List ℕ))
    → (list_any is_too_long resolvers || list_any is_too_long shards) ≡ true
    → splits_fault (resolvers ++ shards) ≡ Some KeyTooLarge
long_splits resolvers shards some = rw (list_any-append is_too_long resolvers shards ∙ some) refl

module _ (line : List ℕ) (p l k : ℕ) (x y : List ℕ) (outline : WritesOutline (words_of line) p l x y k) where
  pub no_resolvers : ((splits : List (List ℕ)) → ¬ WritesSplits x splits) → (config : Config)
      → ¬ WritesConfig line config
  no_resolvers none config written =
      let same : x ≡ written.0 = same_resolvers _ p l k config.proxies config.logs config.book x y written.0 written.1
      outline written.2 in
      none config.resolver_splits (subst (λ w. WritesSplits w config.resolver_splits) (sym same) written.3)

  pub no_shards : ((splits : List (List ℕ)) → ¬ WritesSplits y splits) → (config : Config) → ¬ WritesConfig line config
  no_shards none config written =
      let same : y ≡ written.1 = same_shards _ p l k config.proxies config.logs config.book x y written.0 written.1
      outline written.2 in
      none config.shard_splits (subst (λ w. WritesSplits w config.shard_splits) (sym same) written.4)

  pub config_refused : (resolvers shards : List (List ℕ)) → WritesSplits x resolvers → WritesSplits y shards
      → (why : Refusal) → splits_fault (resolvers ++ shards) ≡ Some why → (config : Config)
      × WritesConfig line config × (line_fault config ≡ Some why)
  config_refused resolvers shards first second why is = (
    record { proxies = p; logs = l; resolver_splits = resolvers; shard_splits = shards; book = k },
    (x, y, outline, first, second),
    is,
  )

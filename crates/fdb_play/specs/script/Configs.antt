-- The line that gives a configuration.
use Rattle.std.specs.Prelude.{◌≡◌, ℕ, ◌==◌, nat_lt, Bool, ◌⊎◌, List, [], ◌∷◌, ◌++◌, length, Option, Some, None}
use Rattle.std.specs.Prelude.{if◌then◌else◌, codes}
use Rattle.std.specs.List.{list_any, slice_split, AllZip}
use Rattle.std.specs.Option.{option_or}
use Rattle.fdb_proxy.specs.declared.config.Config.{Config}
use Rattle.fdb_keys.specs.Texts.{begins_with_ff, key_fault}
use Rattle.fdb_keys.specs.Limits.{key_limit}
use Rattle.fdb_keys.specs.declared.refusal.Refusal.{Refusal}
use Rattle.fdb_keys.specs.declared.refusal.Refusal.TheVariants.{KeyTooLarge, KeyOutsideLegalRange}
use Rattle.fdb_play.specs.script.Grammar.{WritesSmall, WritesText}
use Rattle.fdb_play.specs.script.Words.{words_of}

-- the byte is a comma
abbrev pub is_comma : ℕ → Bool
is_comma byte = byte == 44

-- the pieces of the word between its commas write the texts, one by one
abbrev pub WritesTexts : List ℕ → List (List ℕ) → Type 0
WritesTexts word texts = AllZip WritesText (slice_split is_comma word) texts

-- the word is '-' and there are no splits, or it writes them
abbrev pub WritesSplits : List ℕ → List (List ℕ) → Type 0
WritesSplits word splits = ((word ≡ codes "-") × (splits ≡ [])) ⊎ WritesTexts word splits

-- the words are a configuration's, with two that stand for its splits
abbrev pub WritesOutline : List (List ℕ) → ℕ → ℕ → List ℕ → List ℕ → ℕ → Type 0
WritesOutline words proxies logs resolvers shards book =
    (x : List ℕ) × (y : List ℕ) × (z : List ℕ)
    × (words ≡ codes "config" ∷ codes "proxies" ∷ x ∷ codes "logs" ∷ y ∷ codes "resolvers" ∷ resolvers ∷ codes "shards"
    ∷ shards ∷ codes "book" ∷ z ∷ [])
    × WritesSmall x proxies × WritesSmall y logs × WritesSmall z book

-- the line writes the configuration
abbrev pub WritesConfig : List ℕ → Config → Type 0
WritesConfig line config =
    (resolvers : List ℕ) × (shards : List ℕ)
    × WritesOutline (words_of line) config.proxies config.logs resolvers shards config.book
    × WritesSplits resolvers config.resolver_splits × WritesSplits shards config.shard_splits

-- why the first text that is no key is none
abbrev pub first_fault : List (List ℕ) → Option Refusal
first_fault [] = None
first_fault (text ∷ texts) = option_or (key_fault text) (first_fault texts)

-- the text has more bytes than a key may have
abbrev pub is_too_long : List ℕ → Bool
is_too_long text = nat_lt key_limit (length text)

-- why texts of which some are no keys are refused: a text that is too long goes before one that begins with FF
abbrev pub splits_fault : List (List ℕ) → Option Refusal
splits_fault texts =
    if list_any is_too_long texts then Some KeyTooLarge
    else (if list_any begins_with_ff texts then Some KeyOutsideLegalRange else None)

-- why the splits of a configuration are refused, the resolvers' and the shards' together
abbrev pub line_fault : Config → Option Refusal
line_fault config = splits_fault (config.resolver_splits ++ config.shard_splits)

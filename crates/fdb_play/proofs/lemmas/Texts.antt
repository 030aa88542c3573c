-- Reading and writing byte by byte.
use Rattle.std.proofs.Common.{◌≡◌, ℕ, List, [], ◌∷◌, ◌++◌, Option, Some, None, refl, ap, sym, append_assoc}
use Rattle.fdb_play.specs.script.Texts.{put_before}

-- the bytes that were read, and then what the rest of the text writes
abbrev pub put_all : List ℕ → Option (List ℕ) → Option (List ℕ)
put_all front None = None
put_all front (Some bytes) = Some (front ++ bytes)

pub put_all-nothing : (bytes : Option (List ℕ)) → put_all [] bytes ≡ bytes
put_all-nothing None = refl
put_all-nothing (Some bytes) = refl

pub put_all-put_before : (front : List ℕ) (byte : ℕ) (bytes : Option (List ℕ))
    → put_all front (put_before byte bytes) ≡ put_all (front ++ byte ∷ []) bytes
put_all-put_before front byte None = refl
put_all-put_before front byte (Some bytes) = ap Some (sym (append_assoc front (byte ∷ []) bytes))

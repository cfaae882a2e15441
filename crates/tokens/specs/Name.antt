-- How a name is kept in a field of fixed size.
use Rattle.std.specs.Prelude.{◌≡◌, ℕ, ◌-◌, ◌≤◌, List, ◌++◌, length, take, replicate}
use Rattle.std.proofs.Common.{sym, ap, arith, length-append, length-take}
use Rattle.std.proofs.lemmas.List.{length-replicate}
use Rattle.tokens.specs.TokenLimits.{most_name_bytes}

-- a name's bytes, filled up with zeros
abbrev pub padded : List ℕ → List ℕ
padded name = name ++ replicate (most_name_bytes - length name) 0

-- the field holds a name of this length, and zeros after it
pub record IsPadded (bytes : List ℕ) (len : ℕ) : Type 0 where
  pub within : len ≤ most_name_bytes
  pub filled : bytes ≡ padded (take len bytes)

-- the bytes and the length are those of the name that is kept
pub length-kept : {bytes : List ℕ} {len : ℕ} → IsPadded bytes len → length (take len bytes) ≡ len
length-kept {bytes} {len} h =
    let e = ap length h.filled in
    omega (arith, simp (length-append, length-replicate) at e, length-take len bytes)

pub padded-kept : {bytes : List ℕ} {len : ℕ} → IsPadded bytes len → padded (take len bytes) ≡ bytes
padded-kept h = sym h.filled

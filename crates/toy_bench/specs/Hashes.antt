-- The 64-bit hash FNV-1a of Fowler, Noll and Vo.
use Rattle.std.specs.Prelude.{ℕ, ◌*◌, ◌%◌, ◌^◌, List, fold, bit_xor}

-- a hash with one more byte
abbrev pub hash_with : ℕ → ℕ → ℕ
hash_with hash byte = bit_xor hash byte * 1099511628211 % 2 ^ 64

-- the hash of a text
unfoldable pub hash_of : List ℕ → ℕ
hash_of text = fold hash_with 14695981039346656037 text

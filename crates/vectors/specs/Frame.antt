-- Heads, numbers and checksums of framed cases.
use Rattle.std.specs.Prelude.{ℕ, ◌+◌, ◌*◌, ◌%◌, ◌==◌, if◌then◌else◌, List, [], ◌∷◌, get_or, take, drop, Option, None, Some}
use Rattle.vectors.specs.declared.frame.Call.{Call}
use Rattle.vectors.specs.declared.frame.Call.TheVariants.{Close, Round, Ask}
use Rattle.vectors.specs.declared.frame.Head.{Head}

-- a number of little-endian bytes
unfoldable pub little : List ℕ → ℕ
little [] = 0
little (b ∷ bs) = b + 256 * little bs

-- "call: 0 close, 1 round, 2 ask"
unfoldable pub call_of : ℕ → Option Call
call_of byte = if byte == 0 then Some Close else if byte == 1 then Some Round else if byte == 2 then Some Ask else None

-- the head of a case: the call that its first byte names; kinds, capacity and rounds, of 8 bytes each; the lengths of the areas, of 4; and the byte that fills them
unfoldable pub case_head : List ℕ → Head
case_head s = record {
  call = call_of (get_or s 0 0);
  kinds = little (take 8 (drop 1 s));
  capacity = little (take 8 (drop 9 s));
  rounds = little (take 8 (drop 17 s));
  table = little (take 4 (drop 25 s));
  work = little (take 4 (drop 29 s));
  fill = get_or s 33 0;
}

-- Adler-32: `low` sums the bytes, `high` sums what `low` has been, each modulo 65,521
unfoldable pub adler : ℕ → ℕ → List ℕ → ℕ
adler low high [] = high * 65536 + low
adler low high (b ∷ bs) = adler ((low + b) % 65521) ((high + (low + b) % 65521) % 65521) bs

unfoldable pub adler32 : List ℕ → ℕ
adler32 bytes = adler 1 0 bytes

-- What inner functions ensure. No rule uses it.
use Rattle.std.specs.Prelude.{ℕ, ◌-◌, ◌≤◌, ◌<◌, List, ◌≡◌, length, get_or}
use Rattle.octets.specs.Paper.{Paper}
use Rattle.index.specs.Index.{first_at, is_in, link_of, where_there, built}

-- whether all is there, by lengths
abbrev pub room_for : (has rows buckets heads links : ℕ) → Paper
room_for has rows buckets heads links = where_there has rows buckets heads links built

-- a table whose first n numbers are 0, and whose others are what they were
pub record Cleared (n : ℕ) (t t' : List ℕ) : Type 0 where
  pub long : length t' ≡ length t
  pub cleared : (i : ℕ) → i < n → get_or t' i 0 ≡ 0
  pub kept : (i : ℕ) → n ≤ i → get_or t' i 0 ≡ get_or t i 0

-- the rows from `row` on are chained: every bucket's head is the first of them, and their links are there
pub record Chained (t : List ℕ) (rows buckets row : ℕ) (heads heads' links links' : List ℕ) : Type 0 where
  pub heads_long : length heads' ≡ length heads
  pub head : (b : ℕ) → b < buckets → get_or heads' b 0 ≡ first_at (is_in t buckets b) (rows - row) row
  pub heads_kept : (b : ℕ) → buckets ≤ b → get_or heads' b 0 ≡ get_or heads b 0
  pub links-long : length links' ≡ length links
  pub link : (i : ℕ) → row ≤ i → i < rows → get_or links' i 0 ≡ link_of t rows buckets i
  pub links-kept : (i : ℕ) → rows ≤ i → get_or links' i 0 ≡ get_or links i 0

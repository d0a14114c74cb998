-- What inner functions ask and ensure. No rule uses it.
use Rattle.std.specs.Prelude.{ℕ, ◌+◌, ◌≤◌, ◌≡◌, List, [], ◌∷◌, length}
use Rattle.header.specs.declared.FileFormat.{FileFormat}
use Rattle.header.specs.declared.FileFormat.TheVariants.{Legacy, New}
use Rattle.block.specs.declared.Row.{Row}
use Rattle.octets.specs.Helpers.{put}
use Rattle.writer.specs.declared.sink.Sink.{Sink}

-- each row's payload is in the source
abbrev pub Inside : List ℕ → List Row → Type 0
Inside s [] = Unit {0}
Inside s (r ∷ rs) = (r.payload + r.len ≤ length s) × Inside s rs

-- how many digits an edition's version has
abbrev pub version_digits : FileFormat → ℕ
version_digits Legacy = 3
version_digits New = 4

-- there is room for so many bytes
abbrev pub HasRoom : Sink → ℕ → Type 0
HasRoom s n = s.at + n ≤ length s.out.now

-- The sink stored these bytes, of which there are n: it is the same output, whose other bytes are as they were, and the place is after them.
pub record Stores (old : Sink) (n : ℕ) (vs : List ℕ) (new : Sink) : Type 0 where
  pub same_reference : new.out.ghost_name ≡ old.out.ghost_name
  pub long : length new.out.now ≡ length old.out.now
  pub at_after : new.at ≡ old.at + n
  pub out_after : new.out.now ≡ put old.out.now old.at vs

-- Why a header is not read is a cut, a wrong mark, or that the file does not begin as one: what holds of this refusal holds of every refusal that the header's tree gives.
-- So it holds that the number of a refusal of a file is one of 1 and 3 to 6.
use Prim.Native.Nat.{◌<◌}
use mathlib.Core.List.{List}
use mathlib.Core.Path.{◌≡◌, ◌∙◌, ap}
use lib.ListN.{drop}
use Rattle.octets.specs.declared.Refusal.{Refusal}
use Rattle.octets.specs.declared.Refusal.TheVariants.{CompressedFileNotSupported}
use Rattle.octets.specs.declared.PointerSize.TheVariants.{Bits32, Bits64}
use Rattle.octets.specs.declared.Fault.{Fault}
use Rattle.octets.specs.Refusals.{number_of}
use Rattle.octets.specs.Reader.{Outcome}
use Rattle.octets.specs.Reader.Outcome.{fault}
use Rattle.octets.proofs.Refusing.{Gives, gives-tag}
use Rattle.header.specs.declared.FileFormat.TheVariants.{Legacy, New}
use Rattle.header.specs.Header.{Part, parts, parts_read, untold, HeaderBytes, legacy, new, header_bytes}
use Rattle.header.proofs.Trees.{of_parts}

module _ (P : Refusal → Type 0) where
  parts_give : (ps : List Part) (b : HeaderBytes) → Gives P (parts_read ps b)
  parts_give ps b = of_parts (Gives P) (λ c. tt) (λ n k f. f) (λ A m x n y k e f. (f x, gives-tag P n (k y) (f y))) ps b

  pub header-gives : P CompressedFileNotSupported → Gives P header_bytes
  unfolding header_bytes legacy new
  header-gives w = ((parts_give (drop 1 (parts Legacy)) (untold Legacy Bits32), (parts_give (drop 1 (parts Legacy)) (untold Legacy Bits64), parts_give (parts New) (untold New Bits32))), w)

abbrev pub Counts : Refusal → Type 0
Counts r = (0 < number_of r) × (number_of r < 7) × (number_of r ≡ 2 → ⊥)

abbrev pub Told : Fault → Type 0
Told x = (r : Refusal) → x ≡ Fault.Refusal r → Counts r

pub stop_told : {A : Type 0} (o : Outcome A) → ((r : Refusal) → o ≡ fault (Fault.Refusal r) → Counts r) → (x : Fault) → o ≡ fault x → Told x
stop_told o f x e r z = f r (e ∙ ap fault z)

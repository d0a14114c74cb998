-- A catalogue that is cut before the end of its last struct stops with a cut.
use Prim.Native.Nat.{ℕ, ◌≤◌, ◌<◌}
use mathlib.Core.List.{List}
use mathlib.Core.Path.{◌≡◌}
use native.Mathlib.Omega.{arith}
use lib.ListN.{length, take}
use Rattle.octets.specs.declared.Endianness.{Endianness}
use Rattle.octets.specs.Ascii.{ascii}
use Rattle.octets.specs.Number.{spelled}
use Rattle.octets.specs.Reader.{run, times}
use Rattle.octets.specs.Reader.Reader.{done}
use Rattle.octets.specs.Reader.Outcome.{read}
use Rattle.octets.proofs.Cutting.{CutWithin, Wanting, wanting_then, wanting_times, wanting_tag, cut-read}
use Rattle.octets.proofs.Extent.{ends-within}
use Rattle.dna.specs.Catalogue.{Dna, text, strings, listed, size, sized, field, struct, structured, catalogue}

module _ (e : Endianness) where
  strings_want : (n : ℕ) → Wanting (strings n)
  unfolding strings
  strings_want n = λ from. wanting_then (times n text) _ (wanting_times n text (λ at m. tt)) (λ ps to. tt)

  listed_wants : (mark : List ℕ) → Wanting (listed e mark)
  unfolding listed
  listed_wants mark = wanting_tag mark _ (λ b. strings_want (spelled e b))

  sized_wants : (m : ℕ) → Wanting (sized e m)
  unfolding sized
  sized_wants m = wanting_tag (ascii "TLEN") _ (wanting_then (times m (size e)) _ (wanting_times m (size e) (λ b. tt)) (λ zs. tt))

  struct_wants : Wanting (struct e)
  unfolding struct
  struct_wants = λ b c. wanting_then (times (spelled e c) (field e)) (λ fs. done (spelled e b, fs)) (wanting_times (spelled e c) (field e) (λ t n. tt)) (λ fs. tt)

  structured_wants : Wanting (structured e)
  unfolding structured
  structured_wants = wanting_tag (ascii "STRC") _ (λ b. wanting_times (spelled e b) (struct e) struct_wants)

  catalogue_wants : Wanting (catalogue e)
  unfolding catalogue
  catalogue_wants =
      wanting_tag (ascii "SDNA") _ (wanting_then (listed e (ascii "NAME")) _ (listed_wants (ascii "NAME")) (λ names.
      wanting_then (listed e (ascii "TYPE")) _ (listed_wants (ascii "TYPE")) (λ types.
      wanting_then (sized e (length types)) _ (sized_wants (length types)) (λ sizes. wanting_then (structured e) _ structured_wants (λ structs. tt)))))

  pub catalogue-cut : (s : List ℕ) (d : Dna) (next k : ℕ) → run (catalogue e) s 0 ≡ read d next → k < next → CutWithin k (run (catalogue e) (take k s) 0)
  catalogue-cut s d next k h l =
      let m : next ≤ length s = omega (arith, ends-within (catalogue e) s 0 d next h) in
      cut-read s k (omega arith) (catalogue e) catalogue_wants 0 d next h (omega arith) l

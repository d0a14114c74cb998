-- A catalogue's tree gives no refusal: what stops it is a cut or a wrong mark.
use Prim.Native.Nat.{ℕ}
use mathlib.Core.List.{List}
use lib.ListN.{length}
use Rattle.octets.specs.declared.Endianness.{Endianness}
use Rattle.octets.specs.declared.Refusal.{Refusal}
use Rattle.octets.specs.Ascii.{ascii}
use Rattle.octets.specs.Number.{spelled}
use Rattle.octets.specs.Reader.{times}
use Rattle.octets.specs.Reader.Reader.{done}
use Rattle.octets.proofs.Refusing.{Gives, gives_then, gives-times, gives-tag}
use Rattle.dna.specs.Catalogue.{text, strings, listed, size, sized, field, struct, structured, catalogue}

module _ (P : Refusal → Type 0) (e : Endianness) where
  strings_give : (n : ℕ) → Gives P (strings n)
  unfolding strings
  strings_give n = λ from. gives_then P (times n text) _ (gives-times P n text (λ at m. tt)) (λ ps to. tt)

  listed-gives : (mark : List ℕ) → Gives P (listed e mark)
  unfolding listed
  listed-gives mark = gives-tag P mark _ (λ b. strings_give (spelled e b))

  sized-gives : (m : ℕ) → Gives P (sized e m)
  unfolding sized
  sized-gives m = gives-tag P (ascii "TLEN") _ (gives_then P (times m (size e)) _ (gives-times P m (size e) (λ b. tt)) (λ zs. tt))

  struct-gives : Gives P (struct e)
  unfolding struct
  struct-gives = λ b c. gives_then P (times (spelled e c) (field e)) (λ fs. done (spelled e b, fs)) (gives-times P (spelled e c) (field e) (λ t n. tt)) (λ fs. tt)

  structured-gives : Gives P (structured e)
  unfolding structured
  structured-gives = gives-tag P (ascii "STRC") _ (λ b. gives-times P (spelled e b) (struct e) struct-gives)

  pub catalogue-gives : Gives P (catalogue e)
  unfolding catalogue
  catalogue-gives =
      gives-tag P (ascii "SDNA") _ (gives_then P (listed e (ascii "NAME")) _ (listed-gives (ascii "NAME")) (λ names.
      gives_then P (listed e (ascii "TYPE")) _ (listed-gives (ascii "TYPE")) (λ types.
      gives_then P (sized e (length types)) _ (sized-gives (length types)) (λ sizes. gives_then P (structured e) _ structured-gives (λ structs. tt)))))

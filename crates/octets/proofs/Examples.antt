-- The rules at small inputs, computed.
use mathlib.Core.List.{[], ◌∷◌, ◌++◌}
use mathlib.Core.Path.{◌≡◌, refl}
use mathlib.Core.Bool.{true, false}
use Rattle.octets.specs.declared.Endianness.TheVariants.{Little, Big}
use Rattle.octets.specs.declared.Fault.TheVariants.{Cut, Mark}
use Rattle.octets.specs.Ascii.{ascii}
use Rattle.octets.specs.Looks.{looks}
use Rattle.octets.specs.Number.{number, tag}
use Rattle.octets.specs.Reader.{run, string}
use Rattle.octets.specs.Reader.Reader.{done, skip, until, begins}
use Rattle.octets.specs.Reader.Outcome.{read, fault}

marks : (run (tag (ascii "ENDB") (number Big 2 done)) (ascii "ENDB" ++ (1 ∷ 2 ∷ [])) 0 ≡ read 258 6)
    × (run (tag (ascii "ENDB") (number Big 2 done)) (ascii "ENDX" ++ (1 ∷ 2 ∷ [])) 0 ≡ fault (Mark 0))
    × (run (tag (ascii "ENDB") (number Big 2 done)) (ascii "ENDB" ++ (1 ∷ [])) 0 ≡ fault (Cut 4))
unfolding run
marks = (refl, refl, refl)

strings : (run (string done) (ascii "abc" ++ (0 ∷ 7 ∷ [])) 1 ≡ read 2 4) × (run (string done) (ascii "abc") 1 ≡ fault (Cut 1))
    × (run (until 98 done) (ascii "abc") 0 ≡ read 1 2) × (run (until 98 done) (ascii "abc") 2 ≡ fault (Cut 2))
unfolding run
strings = (refl, refl, refl, refl)

-- a mark that is there is passed, and one that is not, or not whole, is not; what is skipped is not looked at
others : (run (begins (ascii "ENDB") (done true) (done false)) (ascii "xENDB") 1 ≡ read true 5) × (run (begins (ascii "ENDB") (done true) (done false)) (ascii "xEND") 1 ≡ read false 1)
    × (run (skip 2 (number Little 1 done)) (9 ∷ 9 ∷ 7 ∷ []) 0 ≡ read 7 3) × (looks (skip 2 (number Little 1 done)) (9 ∷ 9 ∷ 7 ∷ []) 0 ≡ (2, 1) ∷ [])
unfolding run
others = (refl, refl, refl, refl)

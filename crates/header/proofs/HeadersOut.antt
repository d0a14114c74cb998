-- A header that was written is read back, and one that was read is written as it was: for both editions over their parts.
use Prim.Native.Char.{code}
use Prim.Native.Nat.{ℕ, zero, suc, ◌+◌, ◌/◌, ◌%◌, ◌^◌, ◌≤◌, ◌<◌}
use mathlib.Core.Bool.{true, false}
use mathlib.Core.List.{List, [], ◌∷◌, ◌++◌, append_assoc}
use mathlib.Core.Path.{◌≡◌, refl, sym, ◌∙◌, ap}
use native.Mathlib.Omega.{arith}
use borrow.Author.Tests.{leb-true}
use lib.Dec.{leb}
use lib.ListN.{length, take, drop, length-append, length-drop}
use lib.Seq.{length-take-le}
use Rattle.octets.specs.declared.Endianness.{Endianness}
use Rattle.octets.specs.declared.Endianness.TheVariants.{Little, Big}
use Rattle.octets.specs.declared.PointerSize.{PointerSize}
use Rattle.octets.specs.declared.PointerSize.TheVariants.{Bits32, Bits64}
use Rattle.octets.specs.Ascii.{ascii}
use Rattle.octets.specs.Reader.{Reader, run, same, stands}
use Rattle.octets.specs.Reader.Reader.{begins}
use Rattle.octets.specs.Reader.Outcome.{read}
use Rattle.octets.proofs.Here.{Here, here-all, here-same, here-bytes, here-next, here_not, here-stands, here-tag}
use Rattle.octets.proofs.Reading.{begins_in, begins-out}
use Rattle.octets.proofs.Tests.{both-held}
use Rattle.header.specs.declared.FileFormat.{FileFormat}
use Rattle.header.specs.declared.FileFormat.TheVariants.{Legacy, New}
use Rattle.header.specs.declared.Header.{Header}
use Rattle.header.specs.declared.Version.{Version}
use Rattle.header.specs.Header.{Part, parts, parts_length, magic, header_length, HeaderBytes, with_pointer, with_order, with_unchecked, with_version, parts_read, untold, legacy, new, header_bytes, valued, one_of, pointer_mark, order_mark, decimal, version_of}
use Rattle.header.specs.Header.Part.{pointer_size, byte_order, unchecked, version}
use Rattle.header.specs.HeaderOut.{decimals, pointer_mark_of, order_mark_of, version_number, parts_out, unchecked_out, header_out, version_fits, header_fits}
use Rattle.header.proofs.Headers.{header_made}
use Rattle.header.proofs.Versions.{split, one-digit}

-- Decimal digits: as many as are asked for, and where the number has room they are read as it.
decimals-length : (w n : ℕ) → length (decimals w n) ≡ w
decimals-length zero n = refl
decimals-length (suc w) n = omega (arith, length-append (decimals w (n / 10)) ((code "0" + n % 10) ∷ []), decimals-length w (n / 10))

decimal-join : (n : ℕ) (xs ys : List ℕ) → decimal n (xs ++ ys) ≡ decimal (decimal n xs) ys
unfolding decimal
decimal-join n [] ys = refl
decimal-join n (x ∷ xs) ys = split n x (xs ++ ys) ∙ decimal-join (decimal n (x ∷ [])) xs ys ∙ ap (λ (m : ℕ). decimal m ys) (sym (split n x xs))

decimals-read : (w n : ℕ) → n < 10 ^ w → decimal 0 (decimals w n) ≡ n
unfolding decimal
decimals-read zero n h = omega arith
decimals-read (suc w) n h =
    let d = code "0" + n % 10 in
    decimal-join 0 (decimals w (n / 10)) (d ∷ []) ∙ ap (λ (m : ℕ). decimal m (d ∷ [])) (decimals-read w (n / 10) (omega arith)) ∙ sym (one-digit (n / 10) d (omega arith) (omega arith)) ∙ omega arith

version-back : (w : ℕ) (v : Version) → version_number v < 10 ^ w → v.minor ≤ 99 → version_of (decimals w (version_number v)) ≡ v
version-back w v h m =
    let e = decimals-read w (version_number v) h in
    let a : version_number v / 100 ≡ v.major = omega arith in
    let b : version_number v % 100 ≡ v.minor = omega arith in
    ap (λ (n : ℕ). record { major = n / 100; minor = n % 100 }) e ∙ rw (a, b) refl

-- one of two marks
module _ {A B : Type 0} (m : List ℕ) (x : A) (n : List ℕ) (y : A) (k : A → Reader B) (s : List ℕ) (at : ℕ) (ys : List ℕ) where
  first_back : Here s at (m ++ ys) → run (one_of m x n y k) s at ≡ run (k x) s (at + length m)
  first_back h = begins_in m _ _ s at (here-stands s at m ys h)

  second_back : length m ≡ length n → same n m ≡ false → Here s at (n ++ ys) → run (one_of m x n y k) s at ≡ run (k y) s (at + length n)
  second_back e d h = begins-out m _ _ s at (here_not s at n ys h (length n) refl m e d) ∙ here-tag s at n ys h (k y)

module _ {B : Type 0} (s : List ℕ) (at : ℕ) (ys : List ℕ) where
  pointer_back : (p : PointerSize) (k : PointerSize → Reader B) → Here s at (pointer_mark_of p ++ ys) → run (pointer_mark k) s at ≡ run (k p) s (at + 1)
  pointer_back Bits32 k h = first_back (ascii "_") Bits32 (ascii "-") Bits64 k s at ys h
  pointer_back Bits64 k h = second_back (ascii "_") Bits32 (ascii "-") Bits64 k s at ys refl refl h

  order-back : (e : Endianness) (k : Endianness → Reader B) → Here s at (order_mark_of e ++ ys) → run (order_mark k) s at ≡ run (k e) s (at + 1)
  order-back Little k h = first_back (ascii "v") Little (ascii "V") Big k s at ys h
  order-back Big k h = second_back (ascii "v") Little (ascii "V") Big k s at ys refl refl h

pointer-long : (p : PointerSize) → length (pointer_mark_of p) ≡ 1
pointer-long Bits32 = refl
pointer-long Bits64 = refl

order-long : (e : Endianness) → length (order_mark_of e) ≡ 1
order-long Little = refl
order-long Big = refl

-- what the parts that were written tell
abbrev tells : List Part → Header → List ℕ → HeaderBytes → HeaderBytes
tells [] h u b = b
tells (pointer_size ∷ ps) h u b = tells ps h u (with_pointer b h.pointer_size)
tells (byte_order ∷ ps) h u b = tells ps h u (with_order b h.endianness)
tells (unchecked n ∷ ps) h u b = tells ps h (drop n u) (with_unchecked b (take n u))
tells (version n ∷ ps) h u b = tells ps h u (with_version b (decimals n (version_number h.version)))

-- how many unchecked bytes the parts have
abbrev unlooked : List Part → ℕ
unlooked [] = 0
unlooked (pointer_size ∷ ps) = unlooked ps
unlooked (byte_order ∷ ps) = unlooked ps
unlooked (unchecked n ∷ ps) = n + unlooked ps
unlooked (version n ∷ ps) = unlooked ps

-- The parts are read back one after another, whatever the edition.
module _ (h : Header) (s ys : List ℕ) where
  parts-back : (ps : List Part) (u : List ℕ) (b : HeaderBytes) (at : ℕ) → unlooked ps ≤ length u → Here s at (parts_out ps h u ++ ys)
      → run (parts_read ps b) s at ≡ read (tells ps h u b) (at + parts_length ps)
  unfolding parts_read run
  parts-back [] u b at m w = ap (read b) (omega arith)
  parts-back (pointer_size ∷ ps) u b at m w =
      let p = h.pointer_size in
      let v = here-same s at _ _ (append_assoc (pointer_mark_of p) (parts_out ps h u) ys) w in
      let e : at + 1 + parts_length ps ≡ at + (1 + parts_length ps) = omega arith in
      pointer_back s at (parts_out ps h u ++ ys) p (λ q. parts_read ps (with_pointer b q)) v
      ∙ parts-back ps u (with_pointer b p) (at + 1) m (here-next s at (pointer_mark_of p) (parts_out ps h u ++ ys) v 1 (pointer-long p))
      ∙ ap (read (tells (pointer_size ∷ ps) h u b)) e
  parts-back (byte_order ∷ ps) u b at m w =
      let o = h.endianness in
      let v = here-same s at _ _ (append_assoc (order_mark_of o) (parts_out ps h u) ys) w in
      let e : at + 1 + parts_length ps ≡ at + (1 + parts_length ps) = omega arith in
      order-back s at (parts_out ps h u ++ ys) o (λ q. parts_read ps (with_order b q)) v
      ∙ parts-back ps u (with_order b o) (at + 1) m (here-next s at (order_mark_of o) (parts_out ps h u ++ ys) v 1 (order-long o))
      ∙ ap (read (tells (byte_order ∷ ps) h u b)) e
  parts-back (unchecked n ∷ ps) u b at m w =
      let v = here-same s at _ _ (append_assoc (take n u) (parts_out ps h (drop n u)) ys) w in
      let l : length (take n u) ≡ n = length-take-le n u (omega arith) in
      let e : at + n + parts_length ps ≡ at + (n + parts_length ps) = omega arith in
      here-bytes s at (take n u) (parts_out ps h (drop n u) ++ ys) v n l (λ q. parts_read ps (with_unchecked b q))
      ∙ parts-back ps (drop n u) (with_unchecked b (take n u)) (at + n) (omega (arith, length-drop n u)) (here-next s at (take n u) (parts_out ps h (drop n u) ++ ys) v n l)
      ∙ ap (read (tells (unchecked n ∷ ps) h u b)) e
  parts-back (version n ∷ ps) u b at m w =
      let d = decimals n (version_number h.version) in
      let v = here-same s at _ _ (append_assoc d (parts_out ps h u) ys) w in
      let l : length d ≡ n = decimals-length n (version_number h.version) in
      let e : at + n + parts_length ps ≡ at + (n + parts_length ps) = omega arith in
      here-bytes s at d (parts_out ps h u ++ ys) v n l (λ q. parts_read ps (with_version b q))
      ∙ parts-back ps u (with_version b d) (at + n) m (here-next s at d (parts_out ps h u ++ ys) v n l)
      ∙ ap (read (tells (version n ∷ ps) h u b)) e

-- as many bytes as the edition's header has
parts_out-length : (ps : List Part) (h : Header) (u : List ℕ) → unlooked ps ≤ length u → length (parts_out ps h u) ≡ parts_length ps
parts_out-length [] h u m = refl
parts_out-length (pointer_size ∷ ps) h u m =
    omega (arith, length-append (pointer_mark_of h.pointer_size) (parts_out ps h u), pointer-long h.pointer_size, parts_out-length ps h u m)
parts_out-length (byte_order ∷ ps) h u m = omega (arith, length-append (order_mark_of h.endianness) (parts_out ps h u), order-long h.endianness, parts_out-length ps h u m)
parts_out-length (unchecked n ∷ ps) h u m =
    let k : n ≤ length u = omega arith in
    let r : unlooked ps ≤ length (drop n u) = omega (arith, length-drop n u) in
    omega (arith, length-append (take n u) (parts_out ps h (drop n u)), length-take-le n u k, parts_out-length ps h (drop n u) r)
parts_out-length (version n ∷ ps) h u m =
    let v = version_number h.version in
    omega (arith, length-append (decimals n v) (parts_out ps h u), decimals-length n v, parts_out-length ps h u m)

pub header_out-length : (h : Header) → length (header_out h) ≡ header_length h.format
unfolding header_out
header_out-length h =
    length-append magic (parts_out (parts h.format) h (unchecked_out h.format))
    ∙ ap (λ (n : ℕ). length magic + n) (parts_out-length (parts h.format) h (unchecked_out h.format) (enough h.format))
  where
    enough : (f : FileFormat) → unlooked (parts f) ≤ length (unchecked_out f)
    enough Legacy = omega arith
    enough New = omega arith

-- A header that its edition has room for is read back, whatever follows it.
module _ (f : FileFormat) (p : PointerSize) (e : Endianness) (v : Version) (ys : List ℕ) where
  abbrev said : Header
  said = header_made f p e v

  abbrev file : List ℕ
  file = header_out said ++ ys

  abbrev after : List ℕ
  after = parts_out (parts f) said (unchecked_out f)

  all : Here file 0 (magic ++ (after ++ ys))
  unfolding header_out
  all = here-same file 0 _ _ (append_assoc magic after ys) (here-all file)

  past-magic : Here file 7 (after ++ ys)
  past-magic = here-next file 0 magic (after ++ ys) all 7 refl

  magic-read : {A : Type 0} (on off : Reader A) → run (begins magic on off) file 0 ≡ run on file 7
  magic-read on off = begins_in magic on off file 0 (here-stands file 0 magic (after ++ ys) all)

-- Legacy, after its pointer mark
module _ (e : Endianness) (v : Version) (ys : List ℕ) where
  abbrev legacy-parts : List Part
  legacy-parts = drop 1 (parts Legacy)

  abbrev found : PointerSize → HeaderBytes
  found p = tells legacy-parts (said Legacy p e v ys) [] (untold Legacy p)

  marked : (p : PointerSize) → Here (file Legacy p e v ys) 7 (pointer_mark_of p ++ (parts_out legacy-parts (said Legacy p e v ys) [] ++ ys))
  marked p = here-same _ 7 _ _ (append_assoc (pointer_mark_of p) (parts_out legacy-parts (said Legacy p e v ys) []) ys) (past-magic Legacy p e v ys)

  on-legacy : (p : PointerSize) → run (legacy p) (file Legacy p e v ys) 8 ≡ read (found p) (header_length Legacy)
  unfolding legacy
  on-legacy p =
      parts-back (said Legacy p e v ys) (file Legacy p e v ys) ys legacy-parts [] (untold Legacy p) 8 (omega arith)
      (here-next (file Legacy p e v ys) 7 (pointer_mark_of p) (parts_out legacy-parts (said Legacy p e v ys) [] ++ ys) (marked p) 1 (pointer-long p))

  legacy-found : (p : PointerSize) → run header_bytes (file Legacy p e v ys) 0 ≡ read (found p) (header_length Legacy)
  unfolding header_bytes
  legacy-found Bits32 =
      magic-read Legacy Bits32 e v ys _ _ ∙ begins_in (ascii "_") _ _ (file Legacy Bits32 e v ys) 7 (here-stands _ 7 (ascii "_") _ (marked Bits32)) ∙ on-legacy Bits32
  legacy-found Bits64 =
      magic-read Legacy Bits64 e v ys _ _ ∙ begins-out (ascii "_") _ _ (file Legacy Bits64 e v ys) 7 (here_not _ 7 (ascii "-") _ (marked Bits64) 1 refl (ascii "_") refl refl)
      ∙ begins_in (ascii "-") _ _ (file Legacy Bits64 e v ys) 7 (here-stands _ 7 (ascii "-") _ (marked Bits64))
      ∙ on-legacy Bits64

-- New: what stands after the magic is neither of the pointer marks
module _ (p : PointerSize) (e : Endianness) (v : Version) (ys : List ℕ) where
  not_legacy : (m : List ℕ) → length m ≡ 1 → same (ascii "1") m ≡ false → stands (file New p e v ys) 7 m ≡ false
  not_legacy m l d = here_not (file New p e v ys) 7 (ascii "1") _ (past-magic New p e v ys) 1 refl m l d

  new-found : run header_bytes (file New p e v ys) 0 ≡ read (tells (parts New) (said New p e v ys) (unchecked_out New) (untold New Bits32)) (header_length New)
  unfolding header_bytes new
  new-found =
      magic-read New p e v ys _ _ ∙ begins-out (ascii "_") _ _ (file New p e v ys) 7 (not_legacy (ascii "_") refl refl)
      ∙ begins-out (ascii "-") _ _ (file New p e v ys) 7 (not_legacy (ascii "-") refl refl)
      ∙ parts-back (said New p e v ys) (file New p e v ys) ys (parts New) (unchecked_out New) (untold New Bits32) 7 (omega arith) (past-magic New p e v ys)

version-room : (most : ℕ) (v : Version) → version_fits most v ≡ true → (v.major ≤ most) × (v.minor ≤ 99)
version-room most v f =
    let b = both-held (leb v.major most) (leb v.minor 99) f in
    (leb-true _ _ b.0, leb-true _ _ b.1)

pub header-back : (f : FileFormat) (p : PointerSize) (e : Endianness) (v : Version) (ys : List ℕ) → header_fits (said f p e v ys) ≡ true
    → valued (run header_bytes (file f p e v ys) 0) ≡ read (said f p e v ys) (header_length f)
header-back Legacy p e v ys g =
    let r = version-room 9 v g in
    ap valued (legacy-found e v ys p) ∙ ap (λ (x : Version). read (header_made Legacy p e x) (header_length Legacy)) (version-back 3 v (omega (arith, r.0, r.1)) r.1)
header-back New p e v ys g =
    let r = version-room 99 v (both-held (version_fits 99 v) _ g).0 in
    ap valued (new-found p e v ys) ∙ ap (λ (x : Version). read (header_made New p e x) (header_length New)) (version-back 4 v (omega (arith, r.0, r.1)) r.1)

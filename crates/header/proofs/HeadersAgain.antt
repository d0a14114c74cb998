-- A Legacy header that was read, and whose version bytes are digits, is written as it was.
use Prim.Native.Char.{code}
use Prim.Native.Nat.{ℕ, suc, ◌+◌, ◌*◌, ◌-◌, ◌/◌, ◌%◌, ◌^◌, ◌≤◌, ◌<◌}
use mathlib.Core.Bool.{Bool, true, false, ◌&&◌}
use mathlib.Core.List.{List, [], ◌∷◌, ◌++◌, append-nil}
use mathlib.Core.Path.{◌≡◌, refl, sym, ◌∙◌, ap}
use native.Mathlib.Nat.{pow-succ', mul_assoc}
use native.Mathlib.Omega.{arith}
use borrow.Author.Tests.{leb-true, le-leb}
use lib.Dec.{leb}
use lib.ListN.{length}
use lib.Seq.{append_snoc}
use Rattle.octets.specs.declared.Fault.{Fault}
use Rattle.octets.specs.declared.Refusal.TheVariants.{CompressedFileNotSupported}
use Rattle.octets.specs.declared.Endianness.{Endianness}
use Rattle.octets.specs.declared.Endianness.TheVariants.{Little, Big}
use Rattle.octets.specs.declared.PointerSize.{PointerSize}
use Rattle.octets.specs.declared.PointerSize.TheVariants.{Bits32, Bits64}
use Rattle.octets.specs.Ascii.{ascii, is_digit}
use Rattle.octets.specs.Looks.{part}
use Rattle.octets.specs.Number.{tag}
use Rattle.octets.specs.Reader.{Reader, run, stands}
use Rattle.octets.specs.Reader.Reader.{refuse, begins}
use Rattle.octets.specs.Reader.Outcome.{read, fault}
use Rattle.octets.proofs.Going.{bytes_read, tag_goes, tag_read}
use Rattle.octets.proofs.Marks.{same-eq}
use Rattle.octets.proofs.Parts.{part-long, part_join}
use Rattle.octets.proofs.Reading.{begins_in, begins-out}
use Rattle.octets.proofs.Tests.{held, both-held}
use Rattle.header.specs.declared.FileFormat.TheVariants.{Legacy, New}
use Rattle.header.specs.Header.{parts, magic, HeaderBytes, parts_read, with_order, with_version, untold, legacy, new, header_bytes, header_of, order_mark, decimal, version_of}
use Rattle.header.specs.Header.Part.{version}
use Rattle.header.specs.HeaderOut.{Digits, decimals, pointer_mark_of, order_mark_of, header_out, version_fits}
use Rattle.header.proofs.Headers.{parts_go}
use Rattle.header.proofs.Versions.{split, grows}

-- digits are those of the number that they are read as
digit_below : (b : ℕ) → is_digit b ≡ true → (code "0" ≤ b) × (b ≤ code "9")
digit_below b d =
    let t = both-held (leb (code "0") b) (leb b (code "9")) d in
    (leb-true _ _ t.0, leb-true _ _ t.1)

decimals_more : (bs : List ℕ) (w m : ℕ) → Digits bs → decimals (w + length bs) (decimal m bs) ≡ decimals w m ++ bs
unfolding decimal
decimals_more [] w m d =
    let e : w + 0 ≡ w = omega arith in
    rw e (sym (append-nil (decimals w m)))
decimals_more (b ∷ bs) w m d =
    let x = m * 10 + (b - code "0") in
    let r = digit_below b d.0 in
    let e : w + suc (length bs) ≡ suc w + length bs = omega arith in
    let q : x / 10 ≡ m = omega (arith, r.0, r.1) in
    let l : code "0" + x % 10 ≡ b = omega (arith, r.0, r.1) in
    ap (decimals (w + suc (length bs))) (held _ _ d.0) ∙ ap (λ (k : ℕ). decimals k (decimal x bs)) e ∙ decimals_more bs (suc w) x d.1
    ∙ ap (λ (k : ℕ). decimals w k ++ ((code "0" + x % 10) ∷ []) ++ bs) q
    ∙ ap (λ (k : ℕ). decimals w m ++ (k ∷ []) ++ bs) l
    ∙ append_snoc (decimals w m) b bs

decimals-again : (bs : List ℕ) (w : ℕ) → length bs ≡ w → Digits bs → decimals w (decimal 0 bs) ≡ bs
decimals-again bs w l d =
    let e : w ≡ 0 + length bs = omega arith in
    ap (λ (k : ℕ). decimals k (decimal 0 bs)) e ∙ decimals_more bs 0 0 d

-- three version bytes, whatever they are, tell a version that Legacy has room for
decimal_below : (bs : List ℕ) (n k : ℕ) → n < k → decimal n bs < k * 10 ^ length bs
unfolding decimal
decimal_below [] n k h = omega arith
decimal_below (b ∷ bs) n k h =
    let m : k * 10 ^ suc (length bs) ≡ k * 10 * 10 ^ length bs = ap (λ (p : ℕ). k * p) (pow-succ' 10 (length bs)) ∙ sym (mul_assoc k 10 (10 ^ length bs)) in
    rw (m, split n b bs) (decimal_below bs (decimal n (b ∷ [])) (k * 10) (grows n b k h))

pub legacy-fits : (v : List ℕ) → length v ≡ 3 → version_fits 9 (version_of v) ≡ true
legacy-fits v l =
    let d : decimal 0 v < 1000 = rw l at (decimal_below v 0 1 (omega arith)) in
    let a : decimal 0 v / 100 ≤ 9 = omega arith in
    let b : decimal 0 v % 100 ≤ 99 = omega arith in
    ap (λ (t : Bool). t && leb (decimal 0 v % 100) 99) (le-leb _ _ a) ∙ le-leb _ _ b

-- an order mark that was read
order-again : {A : Type 0} (k : Endianness → Reader A) (s : List ℕ) (at : ℕ) (a : A) (next : ℕ) → run (order_mark k) s at ≡ read a next
    → (e : Endianness) × (part s at 1 ≡ order_mark_of e) × (run (k e) s (at + 1) ≡ read a next)
order-again k s at a next g = go (stands s at (ascii "v")) refl
  where
    go : (t : Bool) → stands s at (ascii "v") ≡ t → (e : Endianness) × (part s at 1 ≡ order_mark_of e) × (run (k e) s (at + 1) ≡ read a next)
    go true u = (Little, same-eq _ _ u, sym (begins_in (ascii "v") _ _ s at u) ∙ g)
    go false u =
        let w : run (tag (ascii "V") (k Big)) s at ≡ read a next = sym (begins-out (ascii "v") _ _ s at u) ∙ g in
        (Big, tag_read (ascii "V") (k Big) s at a next w, tag_goes (ascii "V") (k Big) s at a next w)

-- what stands in a Legacy file's header
pub record LegacyRead (s : List ℕ) (b : HeaderBytes) : Type 0 where
  pub marked : part s 0 7 ≡ magic
  pub pointer : part s 7 1 ≡ pointer_mark_of b.pointer
  pub order : part s 8 1 ≡ order_mark_of b.order
  pub version : part s 9 3 ≡ b.version

module _ (s : List ℕ) (b : HeaderBytes) (next : ℕ) where
  after-pointer : (p : PointerSize) → part s 0 7 ≡ magic → part s 7 1 ≡ pointer_mark_of p → run (legacy p) s 8 ≡ read b next → LegacyRead s b
  unfolding legacy parts_read run
  after-pointer p m q g =
      let o = order-again (λ e. parts_read (version 3 ∷ []) (with_order (untold Legacy p) e)) s 8 b next g in
      let v : read (with_version (with_order (untold Legacy p) o.0) (part s 9 3)) 12 ≡ read b next = bytes_read 3 (λ v. parts_read [] (with_version (with_order (untold Legacy p) o.0) v)) s 9 b next o.2 in
      let e : with_version (with_order (untold Legacy p) o.0) (part s 9 3) ≡ b = cc in
      record {
        marked = m;
        pointer = q ∙ ap (λ (c : HeaderBytes). pointer_mark_of c.pointer) e;
        order = o.1 ∙ ap (λ (c : HeaderBytes). order_mark_of c.order) e;
        version = ap (λ (c : HeaderBytes). c.version) e;
      }

  abbrev either : Reader HeaderBytes
  either = begins (ascii "_") (legacy Bits32) (begins (ascii "-") (legacy Bits64) new)

  pub legacy-read : run header_bytes s 0 ≡ read b next → b.format ≡ Legacy → LegacyRead s b
  unfolding header_bytes new run
  legacy-read h f = first (stands s 0 magic) refl
    where
      long : part s 0 7 ≡ magic → (t : Bool) → stands s 7 (ascii "-") ≡ t → run (begins (ascii "-") (legacy Bits64) new) s 7 ≡ read b next → LegacyRead s b
      long m true u g = after-pointer Bits64 m (same-eq _ _ u) (sym (begins_in (ascii "-") (legacy Bits64) new s 7 u) ∙ g)
      long m false u g =
          let w = parts_go (parts New) (untold New Bits32) s 7 b next (sym (begins-out (ascii "-") (legacy Bits64) new s 7 u) ∙ g) in
          let x : New ≡ Legacy = sym w.0 ∙ f in
          let z : ◌≡◌ {A = ℕ} 0 1 = cc in
          absurd (omega arith)

      short : part s 0 7 ≡ magic → (t : Bool) → stands s 7 (ascii "_") ≡ t → run either s 7 ≡ read b next → LegacyRead s b
      short m true u g = after-pointer Bits32 m (same-eq _ _ u) (sym (begins_in (ascii "_") (legacy Bits32) (begins (ascii "-") (legacy Bits64) new) s 7 u) ∙ g)
      short m false u g = long m (stands s 7 (ascii "-")) refl (sym (begins-out (ascii "_") (legacy Bits32) (begins (ascii "-") (legacy Bits64) new) s 7 u) ∙ g)

      first : (t : Bool) → stands s 0 magic ≡ t → LegacyRead s b
      first true u = short (same-eq _ _ u) (stands s 7 (ascii "_")) refl (sym (begins_in magic either (refuse CompressedFileNotSupported) s 0 u) ∙ h)
      first false u =
          let g : fault (Fault.Refusal CompressedFileNotSupported) ≡ read b next = sym (begins-out magic either (refuse CompressedFileNotSupported) s 0 u) ∙ h in
          let z : ◌≡◌ {A = ℕ} 0 1 = cc in
          absurd (omega arith)

pub legacy-again : (s : List ℕ) (p : PointerSize) (e : Endianness) (u v : List ℕ) → LegacyRead s (record { format = Legacy; pointer = p; order = e; unchecked = u; version = v })
    → 12 ≤ length s → Digits v → header_out (header_of (record { format = Legacy; pointer = p; order = e; unchecked = u; version = v })) ≡ part s 0 12
unfolding header_out
legacy-again s p e u v w l d =
    let n : decimal 0 v / 100 * 100 + decimal 0 v % 100 ≡ decimal 0 v = omega arith in
    let k : length v ≡ 3 = ap length (sym w.version) ∙ part-long s 9 3 (omega arith) in
    let i : decimals 3 (decimal 0 v / 100 * 100 + decimal 0 v % 100) ≡ part s 9 3 = ap (decimals 3) n ∙ decimals-again v 3 k d ∙ sym w.version in
    ap (λ (l : List ℕ). magic ++ (pointer_mark_of p ++ (order_mark_of e ++ l))) (append-nil (decimals 3 (decimal 0 v / 100 * 100 + decimal 0 v % 100)) ∙ i)
    ∙ ap (λ (l : List ℕ). magic ++ (pointer_mark_of p ++ (l ++ part s 9 3))) (sym w.order)
    ∙ ap (λ (l : List ℕ). magic ++ (pointer_mark_of p ++ l)) (part_join s 8 1 3)
    ∙ ap (λ (l : List ℕ). magic ++ (l ++ part s 8 4)) (sym w.pointer)
    ∙ ap (λ (l : List ℕ). magic ++ l) (part_join s 7 1 4)
    ∙ ap (λ (l : List ℕ). l ++ part s 7 5) (sym w.marked)
    ∙ part_join s 0 7 5

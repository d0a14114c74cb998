-- What a tree finds depends on the bytes from where it began to where it ended, and on no other, if its tests for marks do not look past that end: `own`. Where the
-- same bytes stand at another place it finds the same there, unless it asks where it is: `own-moved`.
use Prim.Native.Nat.{ℕ, ◌+◌, ◌-◌, ◌≤◌, ◌<◌}
use mathlib.Core.Bool.{Bool, true, false}
use mathlib.Core.List.{List, [], ◌∷◌}
use mathlib.Core.Path.{◌≡◌, refl, sym, ◌∙◌, ap, subst}
use native.Mathlib.Omega.{arith}
use lib.ListN.{length, get_or, take, drop, length-drop}
use lib.Seq.{get_or-take, get_or-drop, ext_get_or, length-take-le}
use Rattle.octets.specs.declared.Fault.TheVariants.{Cut}
use Rattle.octets.specs.Looks.{looks, Agree, Untouched}
use Rattle.octets.specs.Reader.{Reader, Outcome, run, room, ended_by, stands, before}
use Rattle.octets.specs.Reader.Reader.{done, refuse, stray, here, bytes, skip, until, begins}
use Rattle.octets.specs.Reader.Outcome.{read, fault}
use Rattle.octets.proofs.Same.{Finds, Anchored, anchored}
use Rattle.octets.proofs.Unaltered.{grows, agree_shifted, unaltered}

-- the bytes of the front
pub front : (s t : List ℕ) (n : ℕ) → take n t ≡ take n s → Untouched s t 0 n
front s t n e i h k = sym (get_or-take n t i 0 k) ∙ ap (λ (l : List ℕ). get_or l i 0) e ∙ get_or-take n s i 0 k

-- a mark that does not stand is followed by a tree that reads at least as far as the mark is long
abbrev pub Sober : {A : Type 0} → Reader A → Type 0
Sober (done a) = Unit {0}
Sober (refuse n) = Unit {0}
Sober (stray n) = Unit {0}
Sober (here k) = (n : ℕ) → Sober (k n)
Sober (bytes n k) = (b : List ℕ) → Sober (k b)
Sober (skip n r) = Sober r
Sober (until end k) = (n : ℕ) → Sober (k n)
Sober {A} (begins m on off) = Sober on × Sober off × ((s : List ℕ) (at : ℕ) → Finds (run off s at) (λ (a : A) (next : ℕ). at + length m ≤ next))

-- n bytes from `at` and from `to` are the same
abbrev pub Shown : List ℕ → ℕ → List ℕ → ℕ → ℕ → Type 0
Shown s at t to n = (i : ℕ) → i < n → get_or t (to + i) 0 ≡ get_or s (at + i) 0

pub shown-part : (s : List ℕ) (at : ℕ) (t : List ℕ) (to n : ℕ) → at + n ≤ length s → to + n ≤ length t → Shown s at t to n → take n (drop to t) ≡ take n (drop at s)
shown-part s at t to n h k u =
    let long : (l : List ℕ) (i : ℕ) → i + n ≤ length l → length (take n (drop i l)) ≡ n = λ l i e. length-take-le n (drop i l) (omega (arith, length-drop i l)) in
    ext_get_or 0 (take n (drop to t)) (take n (drop at s)) (long t to k ∙ sym (long s at h))
    (λ i e.
    let m : i < n = omega (arith, long t to k) in
    get_or-take n (drop to t) i 0 m ∙ get_or-drop to t i 0 ∙ u i m ∙ sym (get_or-take n (drop at s) i 0 m ∙ get_or-drop at s i 0))

-- parts in which no byte differs are the same
pub window : (s t : List ℕ) (at n : ℕ) → at + n ≤ length s → at + n ≤ length t → Untouched s t at (at + n) → take n (drop at t) ≡ take n (drop at s)
window s t at n h k u = shown-part s at t at n h k (λ i m. u (at + i) (omega arith) (omega arith))

shown-on : (s : List ℕ) (at : ℕ) (t : List ℕ) (to n k : ℕ) → Shown s at t to (n + k) → Shown s (at + n) t (to + n) k
shown-on s at t to n k u i h =
    let p : to + n + i ≡ to + (n + i) = omega arith in
    let q : at + n + i ≡ at + (n + i) = omega arith in
    rw (p, q) (u (n + i) (omega arith))

module _ (s t : List ℕ) where
  -- spans that lie between `at` and a find's end agree where all bytes of the find stand in t from `to` on
  abbrev Inside : {A : Type 0} → ℕ → ℕ → List (ℕ × ℕ) → A → ℕ → Type 0
  Inside at to ps a next = (k : ℕ) → next ≡ at + k → next ≤ length s → to + k ≤ length t → Shown s at t to k → Agree ps s at t to

  -- n bytes that are passed, and n that are looked at
  passed : {A : Type 0} (at to n : ℕ) (ps : List (ℕ × ℕ)) (o : Outcome A) → Finds o (λ (a : A) (next : ℕ). at + n ≤ next) → Finds o (Inside (at + n) (to + n) ps) → Finds o (Inside at to ps)
  passed at to n ps (read a next) g f = λ k e h l u.
      let d : k ≡ n + (k - n) = omega arith in
      let v : Shown s at t to (n + (k - n)) = subst (λ (j : ℕ). Shown s at t to j) d u in
      agree_shifted ps s (at + n) t (to + n) at to (omega arith) (f (k - n) (omega arith) h (omega arith) (shown-on s at t to n (k - n) v))
  passed at to n ps (fault x) g f = tt

  looked : {A : Type 0} (at to n : ℕ) (ps : List (ℕ × ℕ)) (o : Outcome A) → Finds o (λ (a : A) (next : ℕ). at + n ≤ next) → Finds o (Inside at to ps) → Finds o (Inside at to ((at, n) ∷ ps))
  looked at to n ps (read a next) g f = λ k e h l u. (
    λ q i.
        let z : q ≡ to = omega arith in
        rw z (shown-part s at t to n (omega arith) (omega arith) (λ j m. u j (omega arith))),
    f k e h l u,
  )
  looked at to n ps (fault x) g f = tt

  pub spans : {A : Type 0} (r : Reader A) → Sober r → (at to : ℕ) → Finds (run r s at) (Inside at to (looks r s at))
  unfolding run
  spans (done a) w at to = λ k e h l u. tt
  spans (refuse n) w at to = tt
  spans (stray n) w at to = tt
  spans (here k) w at to = spans (k at) (w at) at to
  spans {A} (bytes n k) w at to = go (room s at n) (spans (k b) (w b) (at + n) (to + n))
    where
      b : List ℕ
      b = take n (drop at s)

      go : (c : Bool) → Finds (run (k b) s (at + n)) (Inside (at + n) (to + n) (looks (k b) s (at + n)))
          → Finds {A = A} (elim c as (λ (d : Bool). Outcome A) [ true ↦ run (k b) s (at + n) | false ↦ fault (Cut at) ])
          (Inside at to ((at, n) ∷ (elim c as (λ (d : Bool). List (ℕ × ℕ)) [ true ↦ looks (k b) s (at + n) | false ↦ [] ])))
      go true f =
          let o = run (k b) s (at + n) in
          let ps = looks (k b) s (at + n) in
          let g = grows (k b) s (at + n) in
          looked at to n ps o g (passed at to n ps o g f)
      go false f = tt
  spans {A} (skip n r) w at to = go (room s at n) (spans r w (at + n) (to + n))
    where
      go : (c : Bool) → Finds (run r s (at + n)) (Inside (at + n) (to + n) (looks r s (at + n)))
          → Finds {A = A} (elim c as (λ (d : Bool). Outcome A) [ true ↦ run r s (at + n) | false ↦ fault (Cut at) ])
          (Inside at to (elim c as (λ (d : Bool). List (ℕ × ℕ)) [ true ↦ looks r s (at + n) | false ↦ [] ]))
      go true f = passed at to n (looks r s (at + n)) (run r s (at + n)) (grows r s (at + n)) f
      go false f = tt
  spans {A} (until end k) w at to = go (ended_by end s at) (spans (k z) (w z) (at + (z + 1)) (to + (z + 1)))
    where
      z : ℕ
      z = before end (drop at s)

      go : (c : Bool) → Finds (run (k z) s (at + (z + 1))) (Inside (at + (z + 1)) (to + (z + 1)) (looks (k z) s (at + (z + 1))))
          → Finds {A = A} (elim c as (λ (d : Bool). Outcome A) [ true ↦ run (k z) s (at + (z + 1)) | false ↦ fault (Cut at) ])
          (Inside at to ((at, z + 1) ∷ (elim c as (λ (d : Bool). List (ℕ × ℕ)) [ true ↦ looks (k z) s (at + (z + 1)) | false ↦ [] ])))
      go true f =
          let o = run (k z) s (at + (z + 1)) in
          let ps = looks (k z) s (at + (z + 1)) in
          let g = grows (k z) s (at + (z + 1)) in
          looked at to (z + 1) ps o g (passed at to (z + 1) ps o g f)
      go false f = tt
  spans {A} (begins m on off) w at to = go (stands s at m) (spans on w.0 (at + length m) (to + length m)) (spans off w.1 at to)
    where
      go : (c : Bool) → Finds (run on s (at + length m)) (Inside (at + length m) (to + length m) (looks on s (at + length m))) → Finds (run off s at) (Inside at to (looks off s at))
          → Finds {A = A} (elim c as (λ (d : Bool). Outcome A) [ true ↦ run on s (at + length m) | false ↦ run off s at ])
          (Inside at to ((at, length m) ∷ (elim c as (λ (d : Bool). List (ℕ × ℕ)) [ true ↦ looks on s (at + length m) | false ↦ looks off s at ])))
      go true f g =
          let o = run on s (at + length m) in
          let ps = looks on s (at + length m) in
          let h = grows on s (at + length m) in
          looked at to (length m) ps o h (passed at to (length m) ps o h f)
      go false f g = looked at to (length m) (looks off s at) (run off s at) (w.2 s at) g

-- A find of k bytes stands wherever these bytes stand, if the tree does not ask where it is or is there already.
pub own-moved : {A : Type 0} (E : Type 0) (r : Reader A) → Sober r → Anchored E r → (s t : List ℕ) (at to : ℕ) → (E → to ≡ at) → (a : A) (k : ℕ) → run r s at ≡ read a (at + k)
    → at + k ≤ length s → to + k ≤ length t → Shown s at t to k → run r t to ≡ read a (to + k)
own-moved {A} E r w v s t at to c a k e h l u =
    let f : Inside s t at to (looks r s at) a (at + k) = subst (λ (o : Outcome A). Finds o (Inside s t at to (looks r s at))) e (spans s t r w at to) in
    unaltered E r v s t at to c a k e (f k refl h l u) l

pub own : {A : Type 0} (r : Reader A) → Sober r → (s t : List ℕ) (at : ℕ) (a : A) (next : ℕ) → run r s at ≡ read a next → next ≤ length s → next ≤ length t → Untouched s t at next
    → run r t at ≡ read a next
own {A} r w s t at a next e h k u =
    let g : at ≤ next = subst (λ (o : Outcome A). Finds o (λ (b : A) (end : ℕ). at ≤ end)) e (grows r s at) in
    let d : next ≡ at + (next - at) = omega arith in
    let f : run r t at ≡ read a (at + (next - at)) =
    own-moved (Unit {0}) r w (anchored r) s t at at (λ x. refl) a (next - at) (e ∙ ap (read a) d) (omega arith) (omega arith) (λ i m. u (at + i) (omega arith) (omega arith)) in
    f ∙ ap (read a) (sym d)

-- How the sections of a catalogue go together to the whole.
use Prim.Native.Nat.{ℕ}
use mathlib.Core.List.{List}
use mathlib.Core.Path.{◌≡◌, ◌∙◌, ap}
use lib.ListN.{length}
use Rattle.octets.specs.declared.Endianness.{Endianness}
use Rattle.octets.specs.declared.Fault.{Fault}
use Rattle.octets.specs.Ascii.{ascii}
use Rattle.octets.specs.Number.{tag}
use Rattle.octets.specs.Reader.{Reader, Outcome, run, then}
use Rattle.octets.specs.Reader.Reader.{done}
use Rattle.octets.specs.Reader.Outcome.{read, fault}
use Rattle.octets.proofs.Onward.{tag-on, tag-stops}
use Rattle.octets.proofs.Times.{goes_on, stops}
use Rattle.dna.specs.Catalogue.{Text, Struct, Dna, listed, sized, structured, catalogue}

module _ (e : Endianness) where
  -- what is left of the catalogue's tree after the sizes, after the types, and after the names
  after_sizes : List Text → List Text → List ℕ → Reader Dna
  after_sizes names types sizes = then (structured e) (λ structs. done (record { names = names; types = types; sizes = sizes; structs = structs }))

  after_types : List Text → List Text → Reader Dna
  after_types names types = then (sized e (length types)) (after_sizes names types)

  after_names : List Text → Reader Dna
  after_names names = then (listed e (ascii "TYPE")) (after_types names)

  module _ (s : List ℕ) (at : ℕ) where
    pub sdna_stopped : (x : Fault) → ◌≡◌ {A = Outcome (Unit {0})} (fault x) (run (tag (ascii "SDNA") (done tt)) s at) → run (catalogue e) s at ≡ fault x
    unfolding catalogue
    sdna_stopped x h = tag-stops s at (ascii "SDNA") _ x h

    module _ (a : ℕ) (m : ◌≡◌ {A = Outcome (Unit {0})} (read tt a) (run (tag (ascii "SDNA") (done tt)) s at)) where
      on-names : run (catalogue e) s at ≡ run (then (listed e (ascii "NAME")) after_names) s a
      unfolding catalogue after_names after_types after_sizes
      on-names = tag-on s at (ascii "SDNA") (then (listed e (ascii "NAME")) after_names) a m

      pub names-stopped : (x : Fault) → run (listed e (ascii "NAME")) s a ≡ fault x → run (catalogue e) s at ≡ fault x
      names-stopped x h = on-names ∙ stops (listed e (ascii "NAME")) after_names s a x h

      module _ (names : List Text) (b : ℕ) (n : run (listed e (ascii "NAME")) s a ≡ read names b) where
        on-types : run (catalogue e) s at ≡ run (after_names names) s b
        on-types = on-names ∙ goes_on (listed e (ascii "NAME")) after_names s a names b n

        pub types-stopped : (x : Fault) → run (listed e (ascii "TYPE")) s b ≡ fault x → run (catalogue e) s at ≡ fault x
        unfolding after_names
        types-stopped x h = on-types ∙ stops (listed e (ascii "TYPE")) (after_types names) s b x h

        module _ (types : List Text) (c : ℕ) (t : run (listed e (ascii "TYPE")) s b ≡ read types c) (k : ℕ) (l : length types ≡ k) where
          on-sizes : run (catalogue e) s at ≡ run (after_types names types) s c
          unfolding after_names
          on-sizes = on-types ∙ goes_on (listed e (ascii "TYPE")) (after_types names) s b types c t

          pub sizes-stopped : (x : Fault) → run (sized e k) s c ≡ fault x → run (catalogue e) s at ≡ fault x
          unfolding after_types
          sizes-stopped x h = on-sizes ∙ stops (sized e (length types)) (after_sizes names types) s c x (ap (λ (i : ℕ). run (sized e i) s c) l ∙ h)

          module _ (sizes : List ℕ) (d : ℕ) (z : run (sized e k) s c ≡ read sizes d) where
            on-structs : run (catalogue e) s at ≡ run (after_sizes names types sizes) s d
            unfolding after_types
            on-structs = on-sizes ∙ goes_on (sized e (length types)) (after_sizes names types) s c sizes d (ap (λ (i : ℕ). run (sized e i) s c) l ∙ z)

            pub structs-stopped : (x : Fault) → run (structured e) s d ≡ fault x → run (catalogue e) s at ≡ fault x
            unfolding after_sizes
            structs-stopped x h = on-structs ∙ stops (structured e) _ s d x h

            pub structs-found : (structs : List Struct) (end : ℕ) → run (structured e) s d ≡ read structs end
                → run (catalogue e) s at ≡ read (record { names = names; types = types; sizes = sizes; structs = structs }) end
            unfolding after_sizes run
            structs-found structs end h = on-structs ∙ goes_on (structured e) _ s d structs end h

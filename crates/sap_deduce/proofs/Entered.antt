-- Entries as they are stored, and what an entry more keeps.
use Rattle.std.proofs.Common.{◌≡◌, ◌<◌, ◌≤◌, ℕ, List, [], ◌∷◌, ◌++◌, length, map, refl, ap, sym, ◌∙◌}
use Rattle.std.proofs.lemmas.List.{map-append, length-map, map_push}
use Rattle.std.proofs.lemmas.Simd.{map-map}
use Rattle.std.proofs.lemmas.List.Elements.{All-nil, All-push}
use Rattle.sap_terms.specs.Tree.{Tree, node_count}
use Rattle.sap_terms.specs.declared.limits.TheConstants.{MOST_TERM_NODES}
use Rattle.sap_terms.specs.Signature.{Sig}
use Rattle.sap_share.specs.Shared.{Shared, tree_at, trees_at}
use Rattle.sap_deduce.specs.declared.origin.Origin.{Origin}
use Rattle.sap_deduce.specs.Entries.{Entry, Entries, terms_of, Adds, none_yet, one_more, AreEntries, AreNumbered, Gains}
use Rattle.sap_deduce.specs.code.Lines.{Line}
use Rattle.sap_deduce.specs.code.Views.{entry_of, entries_of, seen}
use Rattle.sap_deduce.proofs.Derivations.{terms_of-push}

pub entries_of-push : (es : List Line) (e : Line) → entries_of (es ++ e ∷ []) ≡ entries_of es ++ entry_of e ∷ []
entries_of-push es e = map-append entry_of es (e ∷ [])

pub length-entries_of : (es : List Line) → length (entries_of es) ≡ length es
length-entries_of es = length-map es entry_of

pub terms_of-entries : (es : List Line) → terms_of (entries_of es) ≡ map (λ (e : Line). e.term) es
terms_of-entries es = map-map (λ (e : Entry). e.term) entry_of es

-- no entries yet
pub entries_none : (g : Sig) → AreEntries (seen g [])
entries_none g = record { entered = none_yet; within = All-nil (λ (e : Entry). node_count e.term ≤ MOST_TERM_NODES) }

pub numbered_none : (s : Shared) (g : Sig) → s.sig ≡ g → AreNumbered s (seen g [])
numbered_none s g same = record { sig = same; below = All-nil (λ k. k < length s.trees); terms = refl }

-- a line more is an entry more
abbrev pub gains_line : (g : Sig) (es : List Line) (n : ℕ) (t : Tree) (origin : Origin) → Gains (seen g es) (seen g (es ++ record { number = n; term = t; origin = origin } ∷ [])) origin t
gains_line g es n t origin = record {
  sig = refl;
  entries = entries_of-push es _;
  number = n;
  numbers = map-append (λ (e : Line). e.number) es _;
}

-- which may come
pub entries_more : (k l : Entries) (origin : Origin) (t : Tree) → AreEntries k → Gains k l origin t → Adds k.sig k.entries origin t → node_count t ≤ MOST_TERM_NODES → AreEntries l
entries_more k l origin t h gains adds small = record {
  entered = rw (gains.sig, gains.entries) (one_more k.entries t origin h.entered adds);
  within = rw gains.entries (All-push (λ (e : Entry). node_count e.term ≤ MOST_TERM_NODES) k.entries _ h.within small);
}

-- and its number is one of the table
pub numbered_more : (s : Shared) (k l : Entries) (origin : Origin) (t : Tree) → AreNumbered s k → (gains : Gains k l origin t) → gains.number < length s.trees → tree_at s.trees gains.number ≡ t → AreNumbered s l
numbered_more s k l origin t h gains lt same =
    let P : ℕ → Type 0 = λ j. j < length s.trees in
    let before = h.terms in
    record {
      sig = h.sig ∙ sym gains.sig;
      below = rw gains.numbers (All-push P k.numbers gains.number h.below lt);
      terms =
          ap (trees_at s.trees) gains.numbers ∙ map_push (tree_at s.trees) k.numbers gains.number ∙ (λ i. before i ++ same i ∷ []) ∙ sym (terms_of-push k.entries _)
          ∙ ap terms_of (sym gains.entries);
    }

pub ruleset entry_laws = (entries_of-push, length-entries_of, terms_of-entries)

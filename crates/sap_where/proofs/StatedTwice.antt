-- Two restrictions or lemmas have a name that is taken and that no generated restriction has.
use Rattle.std.proofs.Common.{◌≡◌, ◌+◌, ◌||◌, ℕ, Bool, true, false, List, ◌∷◌, ◌++◌, length, drop, refl, sym, subst, Option, Some, None, ◌⊎◌, inl, inr, ⊎_elim}
use Rattle.std.specs.Prelude.{if◌then◌else◌, map}
use Rattle.std.specs.Str.{bytes_eq}
use Rattle.sap_terms.proofs.PlainLaws.Known.{one_name}
use Rattle.sap_terms.specs.Signature.{Sig}
use Rattle.sap_text.specs.declared.token.Token.{Token}
use Rattle.sap_grammar.specs.Words.{Word, words_of}
use Rattle.sap_grammar.specs.Cut.{IsCut, Placed, cut_none, cut_one, placed, words}
use Rattle.sap_grammar.specs.Items.{items_end, items_more}
use Rattle.sap_statements.specs.Statements.{name_of}
use Rattle.sap_statements.specs.declared.statement.Statement.{Statement}
use Rattle.sap_read.specs.Causes.{first_taken, is_among}
use Rattle.sap_read.specs.Files.{IsParted}
use Rattle.sap_read.specs.Item.{Item, Standing, stated_by, statements}
use Rattle.sap_read.specs.ItemGrammar.{AreItems, IsItem, item_builtins, item_definition, item_functions, item_process, item_statement}
use Rattle.sap_where.specs.declared.find.Beginning.TheVariants.{Statement as StatementOf}
use Rattle.sap_where.specs.Where.{BeginsAt}
use Rattle.sap_where.proofs.CutWords.{behind_header, next_piece, no_items, piece_words}
use Rattle.sap_where.proofs.ItemNames.{From, HasTwo, both, further, here_is, statement_at}

no_name : {y : List ℕ} → ◌≡◌ {A = Option (List ℕ)} None (Some y) → ⊥
no_name e = absurd (cc)

some_name : {x y : List ℕ} → ◌≡◌ {A = Option (List ℕ)} (Some x) (Some y) → x ≡ y
some_name e = cc

false_true : false ≡ true → ⊥
false_true e = absurd (cc)

or_rest : (b c : Bool) → b ≡ false → (b || c) ≡ true → c ≡ true
or_rest true c e h = absurd (false_true (sym e))
or_rest false c e h = h

module _ (z : List ℕ) (ts : List Token) (r : List ℕ → Bool) (x : List ℕ) (free : r x ≡ false) where
  abbrev from : ℕ → List Word
  from k = words_of z (drop k ts)

  abbrev At : ℕ → Type 0
  At k = BeginsAt z ts StatementOf x k

  -- one of the name is here, or behind; and so of two
  one_stated : {g : Sig} {v : Item} {ws : List Word} → IsItem g v ws → (k : ℕ) (m : List Word) (ss : List Statement) → from k ≡ ws ++ m
      → is_among (map name_of (stated_by v ++ ss)) x ≡ true → At k ⊎ (is_among (map name_of ss) x ≡ true)
  one_stated (item_builtins s) k m ss e h = inr h
  one_stated (item_functions s) k m ss e h = inr h
  one_stated (item_process s) k m ss e h = inr h
  one_stated (item_definition p s) k m ss e h = inr h
  one_stated (item_statement {s = s} is) k m ss e h = by (bytes_eq (name_of s) x) refl h
    where
      by : (t : Bool) → bytes_eq (name_of s) x ≡ t → (t || is_among (map name_of ss) x) ≡ true → At k ⊎ (is_among (map name_of ss) x ≡ true)
      by true same also = inl (subst (λ (y : List ℕ). BeginsAt z ts StatementOf y k) (one_name (name_of s) x same) (statement_at z ts is k m e))
      by false other later = inr later

  two_stated : {g : Sig} {v : Item} {ws : List Word} → IsItem g v ws → (k : ℕ) (m : List Word) (ss : List Statement) → from k ≡ ws ++ m
      → first_taken r (map name_of (stated_by v ++ ss)) ≡ Some x → (At k × (is_among (map name_of ss) x ≡ true)) ⊎ (first_taken r (map name_of ss) ≡ Some x)
  two_stated (item_builtins s) k m ss e h = inr h
  two_stated (item_functions s) k m ss e h = inr h
  two_stated (item_process s) k m ss e h = inr h
  two_stated (item_definition p s) k m ss e h = inr h
  two_stated (item_statement {s = s} is) k m ss e h = by (r (name_of s) || is_among (map name_of ss) (name_of s)) refl h
    where
      by : (t : Bool) → (r (name_of s) || is_among (map name_of ss) (name_of s)) ≡ t → (if t then Some (name_of s) else first_taken r (map name_of ss)) ≡ Some x
          → (At k × (is_among (map name_of ss) x ≡ true)) ⊎ (first_taken r (map name_of ss) ≡ Some x)
      by true known same =
          let is_x = some_name same in
          inl (
            subst (λ (y : List ℕ). BeginsAt z ts StatementOf y k) is_x (statement_at z ts is k m e),
            or_rest (r x) (is_among (map name_of ss) x) free (subst (λ (y : List ℕ). (r y || is_among (map name_of ss) y) ≡ true) is_x known),
          )
      by false known same = inr same

  stated_from : {g : Sig} {ps : List Placed} {cut : List (List Placed)} {is : List Standing} → IsCut ps cut → AreItems g cut is → (k : ℕ)
      → placed z (drop k ts) ≡ ps → is_among (map name_of (statements is)) x ≡ true → From At k
  stated_from cut_none h k e f = absurd (no_items h refl)
  stated_from (cut_one p ps rest never starts c) (items_end is) k e f = absurd (false_true f)
  stated_from (cut_one p ps rest never starts c) (items_more {vs = vs} s q) k e f =
      ⊎_elim (λ here. here_is k here) (λ later. further k (length (p ∷ ps)) (stated_from c q (k + length (p ∷ ps)) (next_piece z ts k (p ∷ ps) rest e) later))
      (one_stated s k (words rest) (statements vs) (piece_words z ts k (p ∷ ps) rest e) f)

  stated_twice_from : {g : Sig} {ps : List Placed} {cut : List (List Placed)} {is : List Standing} → IsCut ps cut → AreItems g cut is → (k : ℕ)
      → placed z (drop k ts) ≡ ps → first_taken r (map name_of (statements is)) ≡ Some x → HasTwo At
  stated_twice_from cut_none h k e f = absurd (no_items h refl)
  stated_twice_from (cut_one p ps rest never starts c) (items_end is) k e f = absurd (no_name f)
  stated_twice_from (cut_one p ps rest never starts c) (items_more {vs = vs} s q) k e f =
      ⊎_elim (λ h. both k (length ps) h.0 (stated_from c q (k + length (p ∷ ps)) (next_piece z ts k (p ∷ ps) rest e) h.1))
      (λ later. stated_twice_from c q (k + length (p ∷ ps)) (next_piece z ts k (p ∷ ps) rest e) later)
      (two_stated s k (words rest) (statements vs) (piece_words z ts k (p ∷ ps) rest e) f)

  pub two_statements : {g : Sig} {y : List ℕ} {cut : List (List Placed)} {is : List Standing} → IsParted z ts y cut → AreItems g cut is
      → first_taken r (map name_of (statements is)) ≡ Some x → HasTwo (BeginsAt z ts StatementOf x)
  two_statements p q f = stated_twice_from p.items q 3 (behind_header z ts p.header) f

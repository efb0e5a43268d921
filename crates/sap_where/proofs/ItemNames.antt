-- Where items of a file begin: two words `process` stand in a file that has two processes, and items begin with a name that is taken.
use Rattle.std.proofs.Common.{◌≡◌, ◌≤◌, ◌<◌, ◌+◌, ◌||◌, ℕ, zero, suc, Bool, true, false, List, [], ◌∷◌, ◌++◌, length, drop, refl, sym, subst, arith, Option, Some, None, ◌⊎◌, inl, inr, ⊎_elim}
use Rattle.std.specs.Prelude.{if◌then◌else◌, slice_get, map}
use Rattle.std.specs.Str.{bytes_eq}
use Rattle.sap_terms.proofs.PlainLaws.Known.{one_name, own_name}
use Rattle.sap_terms.specs.Signature.{Sig}
use Rattle.sap_text.specs.declared.token.Token.{Token}
use Rattle.sap_grammar.specs.Words.{Word, words_of}
use Rattle.sap_grammar.specs.Cut.{IsCut, Placed, cut_none, cut_one, first_line, placed, words}
use Rattle.sap_grammar.specs.Items.{items_end, items_more}
use Rattle.sap_grammar.specs.declared.limits.Limits.{Limits}
use Rattle.sap_statements.specs.Statements.{IsStatement, is_lemma, is_restriction, name_of}
use Rattle.sap_statements.specs.declared.statement.Statement.{Statement}
use Rattle.sap_read.specs.Causes.{first_repeated, first_taken, is_among, labels, unlabelled}
use Rattle.sap_read.specs.Files.{IsParted}
use Rattle.sap_read.specs.Item.{Body, Item, Standing, bodies, body_of, stated_by, statements}
use Rattle.sap_read.specs.ItemGrammar.{AreItems, IsItem, item_builtins, item_definition, item_functions, item_process, item_statement}
use Rattle.sap_where.specs.declared.find.Beginning.{Beginning}
use Rattle.sap_where.specs.declared.find.Beginning.TheVariants.{Definition, Process, Statement as StatementOf}
use Rattle.sap_where.specs.Where.{BeginsAt, begins}
use Rattle.sap_where.proofs.CutWords.{behind_header, next_piece, no_items, piece_words}

no_body : {b : Body} → ◌≡◌ {A = Option Body} None (Some b) → ⊥
no_body e = absurd (cc)

no_name : {y : List ℕ} → ◌≡◌ {A = Option (List ℕ)} None (Some y) → ⊥
no_name e = absurd (cc)

no_word : {w : Word} {ws : List Word} → ◌≡◌ {A = List Word} [] (w ∷ ws) → ⊥
no_word e = absurd (cc)

some_name : {x y : List ℕ} → ◌≡◌ {A = Option (List ℕ)} (Some x) (Some y) → x ≡ y
some_name e = cc

-- it holds of one number from here on; of two
pub record From (P : ℕ → Type 0) (k : ℕ) : Type 0 where
  pub number : ℕ
  pub behind : k ≤ number
  pub is : P number

pub record HasTwo (P : ℕ → Type 0) : Type 0 where
  pub first : ℕ
  pub second : ℕ
  pub order : first < second
  pub is_first : P first
  pub is_second : P second

pub further : {P : ℕ → Type 0} (k n : ℕ) → From P (k + n) → From P k
further k n h = let le = h.behind in record { number = h.number; behind = omega (arith, le); is = h.is }

-- it holds here
pub here_is : {P : ℕ → Type 0} (k : ℕ) → P k → From P k
here_is k p = record { number = k; behind = omega arith; is = p }

-- it holds here, and further on
pub both : {P : ℕ → Type 0} (k n : ℕ) → P k → From P (k + suc n) → HasTwo P
both k n p h = let le = h.behind in record { first = k; second = h.number; order = omega (arith, le); is_first = p; is_second = h.is }

module _ (z : List ℕ) (ts : List Token) where
  -- the words from token k on
  abbrev from : ℕ → List Word
  from k = words_of z (drop k ts)

  abbrev At : Beginning → List ℕ → ℕ → Type 0
  At b x k = BeginsAt z ts b x k

  starts_at : (b : Beginning) (x : List ℕ) (k : ℕ) (w : Word) (ws : List Word) → from k ≡ w ∷ ws → begins b x (w ∷ ws) ≡ true → At b x k
  starts_at b x k w ws e h = record {
    inside = within k ts e;
    is = subst (λ (vs : List Word). begins b x vs ≡ true) (sym e) h;
  }
    where
      within : (j : ℕ) (us : List Token) → words_of z (drop j us) ≡ w ∷ ws → j < length us
      within zero [] f = absurd (no_word f)
      within zero (t ∷ us) f = omega arith
      within (suc j) [] f = absurd (no_word f)
      within (suc j) (t ∷ us) f = let lt = within j us f in omega (arith, lt)

  pub statement_at : {g : Sig} {m : Limits} {s : Statement} {ws : List Word} → IsStatement g m s ws → (k : ℕ) (rest : List Word) → from k ≡ ws ++ rest
      → At StatementOf (name_of s) k
  statement_at (is_restriction {x = x} f) k rest e = starts_at StatementOf x k _ _ e (own_name x)
  statement_at (is_lemma {x = x} a d f) k rest e = starts_at StatementOf x k _ _ e (own_name x)

  -- the first process of these is here, or behind; so of the second
  first_process : {g : Sig} {v : Item} {ws : List Word} → IsItem g v ws → (k : ℕ) (m : List Word) (line : ℕ) (bs : List Body) (b : Body) → from k ≡ ws ++ m
      → slice_get (unlabelled (body_of v line ++ bs)) 0 ≡ Some b → At Process [] k ⊎ (slice_get (unlabelled bs) 0 ≡ Some b)
  first_process (item_builtins s) k m line bs b e h = inr h
  first_process (item_functions s) k m line bs b e h = inr h
  first_process (item_definition p s) k m line bs b e h = inr h
  first_process (item_process s) k m line bs b e h = inl (starts_at Process [] k _ _ e refl)
  first_process (item_statement s) k m line bs b e h = inr h

  second_process : {g : Sig} {v : Item} {ws : List Word} → IsItem g v ws → (k : ℕ) (m : List Word) (line : ℕ) (bs : List Body) (b : Body) → from k ≡ ws ++ m
      → slice_get (unlabelled (body_of v line ++ bs)) 1 ≡ Some b → (At Process [] k × (slice_get (unlabelled bs) 0 ≡ Some b)) ⊎ (slice_get (unlabelled bs) 1 ≡ Some b)
  second_process (item_builtins s) k m line bs b e h = inr h
  second_process (item_functions s) k m line bs b e h = inr h
  second_process (item_definition p s) k m line bs b e h = inr h
  second_process (item_process s) k m line bs b e h = inl (starts_at Process [] k _ _ e refl, h)
  second_process (item_statement s) k m line bs b e h = inr h

  -- a definition of the name is here, or behind; and so of two
  one_label : {g : Sig} {v : Item} {ws : List Word} → IsItem g v ws → (k : ℕ) (m : List Word) (line : ℕ) (bs : List Body) (x : List ℕ) → from k ≡ ws ++ m
      → is_among (labels (body_of v line ++ bs)) x ≡ true → At Definition x k ⊎ (is_among (labels bs) x ≡ true)
  one_label (item_builtins s) k m line bs x e h = inr h
  one_label (item_functions s) k m line bs x e h = inr h
  one_label (item_process s) k m line bs x e h = inr h
  one_label (item_statement s) k m line bs x e h = inr h
  one_label (item_definition {x = d} p s) k m line bs x e h = by (bytes_eq d x) refl h
    where
      by : (t : Bool) → bytes_eq d x ≡ t → (t || is_among (labels bs) x) ≡ true → At Definition x k ⊎ (is_among (labels bs) x ≡ true)
      by true same also = inl (subst (λ (y : List ℕ). At Definition y k) (one_name d x same) (starts_at Definition d k _ _ e (own_name d)))
      by false other later = inr later

  two_labels : {g : Sig} {v : Item} {ws : List Word} → IsItem g v ws → (k : ℕ) (m : List Word) (line : ℕ) (bs : List Body) (x : List ℕ) → from k ≡ ws ++ m
      → first_repeated (labels (body_of v line ++ bs)) ≡ Some x → (At Definition x k × (is_among (labels bs) x ≡ true)) ⊎ (first_repeated (labels bs) ≡ Some x)
  two_labels (item_builtins s) k m line bs x e h = inr h
  two_labels (item_functions s) k m line bs x e h = inr h
  two_labels (item_process s) k m line bs x e h = inr h
  two_labels (item_statement s) k m line bs x e h = inr h
  two_labels (item_definition {x = d} p s) k m line bs x e h = by (is_among (labels bs) d) refl h
    where
      by : (t : Bool) → is_among (labels bs) d ≡ t → (if t then Some d else first_repeated (labels bs)) ≡ Some x
          → (At Definition x k × (is_among (labels bs) x ≡ true)) ⊎ (first_repeated (labels bs) ≡ Some x)
      by true known same =
          inl (subst (λ (y : List ℕ). At Definition y k × (is_among (labels bs) y ≡ true)) (some_name same) (starts_at Definition d k _ _ e (own_name d), known))
      by false known same = inr same

  -- the statement whose name is taken is here, or behind
  taken_name : (r : List ℕ → Bool) {g : Sig} {v : Item} {ws : List Word} → IsItem g v ws → (k : ℕ) (m : List Word) (ss : List Statement) (x : List ℕ) → from k ≡ ws ++ m
      → first_taken r (map name_of (stated_by v ++ ss)) ≡ Some x → At StatementOf x k ⊎ (first_taken r (map name_of ss) ≡ Some x)
  taken_name r (item_builtins s) k m ss x e h = inr h
  taken_name r (item_functions s) k m ss x e h = inr h
  taken_name r (item_process s) k m ss x e h = inr h
  taken_name r (item_definition p s) k m ss x e h = inr h
  taken_name r (item_statement {s = s} is) k m ss x e h = by (r (name_of s) || is_among (map name_of ss) (name_of s)) h
    where
      by : (t : Bool) → (if t then Some (name_of s) else first_taken r (map name_of ss)) ≡ Some x → At StatementOf x k ⊎ (first_taken r (map name_of ss) ≡ Some x)
      by true same = inl (subst (λ (y : List ℕ). At StatementOf y k) (some_name same) (statement_at is k m e))
      by false same = inr same

  process_from : {g : Sig} {ps : List Placed} {cut : List (List Placed)} {is : List Standing} → IsCut ps cut → AreItems g cut is → (k : ℕ) (b : Body)
      → placed z (drop k ts) ≡ ps → slice_get (unlabelled (bodies is)) 0 ≡ Some b → From (At Process []) k
  process_from cut_none h k b e f = absurd (no_items h refl)
  process_from (cut_one p ps rest never starts c) (items_end is) k b e f = absurd (no_body f)
  process_from (cut_one p ps rest never starts c) (items_more {vs = vs} s q) k b e f =
      ⊎_elim (λ here. here_is k here) (λ later. further k (length (p ∷ ps)) (process_from c q (k + length (p ∷ ps)) b (next_piece z ts k (p ∷ ps) rest e) later))
      (first_process s k (words rest) (first_line (p ∷ ps)) (bodies vs) b (piece_words z ts k (p ∷ ps) rest e) f)

  processes_from : {g : Sig} {ps : List Placed} {cut : List (List Placed)} {is : List Standing} → IsCut ps cut → AreItems g cut is → (k : ℕ) (b : Body)
      → placed z (drop k ts) ≡ ps → slice_get (unlabelled (bodies is)) 1 ≡ Some b → HasTwo (At Process [])
  processes_from cut_none h k b e f = absurd (no_items h refl)
  processes_from (cut_one p ps rest never starts c) (items_end is) k b e f = absurd (no_body f)
  processes_from (cut_one p ps rest never starts c) (items_more {vs = vs} s q) k b e f =
      ⊎_elim (λ h. both k (length ps) h.0 (process_from c q (k + length (p ∷ ps)) b (next_piece z ts k (p ∷ ps) rest e) h.1))
      (λ later. processes_from c q (k + length (p ∷ ps)) b (next_piece z ts k (p ∷ ps) rest e) later)
      (second_process s k (words rest) (first_line (p ∷ ps)) (bodies vs) b (piece_words z ts k (p ∷ ps) rest e) f)

  label_from : {g : Sig} {ps : List Placed} {cut : List (List Placed)} {is : List Standing} → IsCut ps cut → AreItems g cut is → (k : ℕ) (x : List ℕ)
      → placed z (drop k ts) ≡ ps → is_among (labels (bodies is)) x ≡ true → From (At Definition x) k
  label_from cut_none h k x e f = absurd (no_items h refl)
  label_from (cut_one p ps rest never starts c) (items_end is) k x e f = absurd (cc)
  label_from (cut_one p ps rest never starts c) (items_more {vs = vs} s q) k x e f =
      ⊎_elim (λ here. here_is k here) (λ later. further k (length (p ∷ ps)) (label_from c q (k + length (p ∷ ps)) x (next_piece z ts k (p ∷ ps) rest e) later))
      (one_label s k (words rest) (first_line (p ∷ ps)) (bodies vs) x (piece_words z ts k (p ∷ ps) rest e) f)

  labels_from : {g : Sig} {ps : List Placed} {cut : List (List Placed)} {is : List Standing} → IsCut ps cut → AreItems g cut is → (k : ℕ) (x : List ℕ)
      → placed z (drop k ts) ≡ ps → first_repeated (labels (bodies is)) ≡ Some x → HasTwo (At Definition x)
  labels_from cut_none h k x e f = absurd (no_items h refl)
  labels_from (cut_one p ps rest never starts c) (items_end is) k x e f = absurd (no_name f)
  labels_from (cut_one p ps rest never starts c) (items_more {vs = vs} s q) k x e f =
      ⊎_elim (λ h. both k (length ps) h.0 (label_from c q (k + length (p ∷ ps)) x (next_piece z ts k (p ∷ ps) rest e) h.1))
      (λ later. labels_from c q (k + length (p ∷ ps)) x (next_piece z ts k (p ∷ ps) rest e) later)
      (two_labels s k (words rest) (first_line (p ∷ ps)) (bodies vs) x (piece_words z ts k (p ∷ ps) rest e) f)

  statement_from : (r : List ℕ → Bool) {g : Sig} {ps : List Placed} {cut : List (List Placed)} {is : List Standing} → IsCut ps cut → AreItems g cut is → (k : ℕ) (x : List ℕ)
      → placed z (drop k ts) ≡ ps → first_taken r (map name_of (statements is)) ≡ Some x → From (At StatementOf x) k
  statement_from r cut_none h k x e f = absurd (no_items h refl)
  statement_from r (cut_one p ps rest never starts c) (items_end is) k x e f = absurd (no_name f)
  statement_from r (cut_one p ps rest never starts c) (items_more {vs = vs} s q) k x e f =
      ⊎_elim (λ here. here_is k here) (λ later. further k (length (p ∷ ps)) (statement_from r c q (k + length (p ∷ ps)) x (next_piece z ts k (p ∷ ps) rest e) later))
      (taken_name r s k (words rest) (statements vs) x (piece_words z ts k (p ∷ ps) rest e) f)

  -- the file's second process, the second definition of a name, and the statement whose name is taken
  pub two_processes : {g : Sig} {y : List ℕ} {cut : List (List Placed)} {is : List Standing} → IsParted z ts y cut → AreItems g cut is → (b : Body)
      → slice_get (unlabelled (bodies is)) 1 ≡ Some b → HasTwo (BeginsAt z ts Process [])
  two_processes p q b f = processes_from p.items q 3 b (behind_header z ts p.header) f

  pub two_definitions : {g : Sig} {y : List ℕ} {cut : List (List Placed)} {is : List Standing} → IsParted z ts y cut → AreItems g cut is → (x : List ℕ)
      → first_repeated (labels (bodies is)) ≡ Some x → HasTwo (BeginsAt z ts Definition x)
  two_definitions p q x f = labels_from p.items q 3 x (behind_header z ts p.header) f

  pub taken_statement : (r : List ℕ → Bool) {g : Sig} {y : List ℕ} {cut : List (List Placed)} {is : List Standing} → IsParted z ts y cut → AreItems g cut is → (x : List ℕ)
      → first_taken r (map name_of (statements is)) ≡ Some x → From (BeginsAt z ts StatementOf x) 3
  taken_statement r p q x f = statement_from r p.items q 3 x (behind_header z ts p.header) f

  -- a name that is defined begins an item
  pub defined_name : {g : Sig} {y : List ℕ} {cut : List (List Placed)} {is : List Standing} → IsParted z ts y cut → AreItems g cut is → (x : List ℕ)
      → is_among (labels (bodies is)) x ≡ true → From (BeginsAt z ts Definition x) 3
  defined_name p q x f = label_from p.items q 3 x (behind_header z ts p.header) f

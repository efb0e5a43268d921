-- At which words facts begin that are looked for.
use Rattle.std.proofs.Common.{◌≡◌, ◌<◌, ℕ, zero, suc, codes, Bool, true, false, ◌&&◌, ◌||◌, inl, inr, List, [], ◌∷◌, Option, Some, None, length, drop, option_map, refl, sym, ap, ◌∙◌, subst, ⊎_elim, arith}
use Rattle.std.proofs.lemmas.Bool.{and_from, and_parts, false≢true, or_cases, or_left, or_right}
use Rattle.std.specs.List.{list_any}
use Rattle.std.specs.Str.{bytes_eq}
use Rattle.sap_terms.specs.Signature.{Sig}
use Rattle.sap_terms.specs.declared.fact.Fact.{Fact}
use Rattle.sap_text.specs.declared.token.Token.{Token}
use Rattle.sap_grammar.specs.FactGrammar.{IsFact, IsShortFact, fact_linear, fact_persistent}
use Rattle.sap_grammar.specs.TermReading.{short_fact}
use Rattle.sap_grammar.specs.Words.{Word, words_of}
use Rattle.sap_grammar.specs.declared.limits.Limits.{Limits}
use Rattle.sap_draft.specs.declared.limits.TheConstants.{FILE_LIMITS}
use Rattle.sap_where.specs.TokenWords.{stands}
use Rattle.sap_uses.specs.ScopeFlaws.{LeadsTo}
use Rattle.sap_notes.specs.Contents.{Content}
use Rattle.sap_notes.specs.FactWords.{IsFactAt, IsRunItem, IsSaidAt, IsShownAt, in_statement, is_shown, item_before}
use Rattle.sap_notes.specs.Facts.{fact_key}
use Rattle.sap_notes.specs.NotedWords.{IsDefinedAt}
use Rattle.sap_notes.specs.code.FirstNotes.{fact_name, is_led, is_run_item, said_key, shown_key}
use Rattle.sap_notes.specs.code.Led.{AreLedTo, IsAmong}
use Rattle.sap_notes.specs.code.Walk.{defined_name, name_if}
use Rattle.sap_notes.proofs.Found.{defined_is, if_some, is_defined, some_if}

-- what is read as a fact is one, and what is one is read
pub record AreRead : Type 0 where
  pub sound : (g : Sig) (m : Limits) (allowed : Bool) (f : Fact) (a b : List Word) → short_fact g m allowed a ≡ Some (f, b) → IsShortFact g m allowed f a b
  pub complete : (g : Sig) (m : Limits) (allowed : Bool) (f : Fact) (a b : List Word) → IsShortFact g m allowed f a b → short_fact g m allowed a ≡ Some (f, b)

read_key : (o : Option (Fact × List Word)) (x : List ℕ) → option_map (λ p. fact_key p.0) o ≡ Some x → (p : Fact × List Word) × (o ≡ Some p) × (fact_key p.0 ≡ x)
read_key None x e = absurd (cc)
read_key (Some p) x e = (p, refl, some_same e) where
  some_same : {a b : List ℕ} → ◌≡◌ {A = Option (List ℕ)} (Some a) (Some b) → a ≡ b
  some_same h = cc (h)

-- no words begin with no fact
no_words : (g : Sig) (f : Fact) (ws b : List Word) → ws ≡ [] → IsFact g f ws b → ⊥
no_words g _ _ b e (fact_linear up r) = absurd (cc)
no_words g _ _ b e (fact_persistent up r) = absurd (cc)

within_tokens : (z : List ℕ) (g : Sig) (f : Fact) (b : List Word) (ts : List Token) (k : ℕ) → IsFact g f (words_of z (drop k ts)) b → k < length ts
within_tokens z g f b [] zero r = absurd (no_words g f [] b refl r)
within_tokens z g f b [] (suc k) r = absurd (no_words g f [] b refl r)
within_tokens z g f b (t ∷ ts) zero r = omega arith
within_tokens z g f b (t ∷ ts) (suc k) r = let more = within_tokens z g f b ts k r in omega (arith, more)

module _ (read : AreRead) (z : List ℕ) (ts : List Token) (g : Sig) (x : List ℕ) (k : ℕ) where
  name_is : fact_name g z ts k ≡ Some x → IsFactAt g z ts x k
  name_is e =
      let p = read_key (short_fact g FILE_LIMITS false (words_of z (drop k ts))) x e in
      record { fact = p.0.0; key = p.2; behind = p.0.1; spelled = read.sound g FILE_LIMITS false p.0.0 (words_of z (drop k ts)) p.0.1 p.1 }

  is_name : IsFactAt g z ts x k → fact_name g z ts k ≡ Some x
  is_name a = ap (option_map (λ p. fact_key p.0)) (read.complete g FILE_LIMITS false a.fact (words_of z (drop k ts)) a.behind a.spelled) ∙ ap Some a.key

  pub fact_within : IsFactAt g z ts x k → k < length ts
  fact_within a = within_tokens z g a.fact a.behind ts k a.spelled.spelled

led_name : (led : List (List ℕ)) (o : Option (List ℕ)) → is_led led o ≡ true → (x : List ℕ) × (o ≡ Some x) × IsAmong led x
led_name led None e = absurd (false≢true e)
led_name led (Some x) e = (x, refl, e)

name_led : (led : List (List ℕ)) (o : Option (List ℕ)) (x : List ℕ) → o ≡ Some x → IsAmong led x → is_led led o ≡ true
name_led led o x e h = ap (is_led led) e ∙ h

module _ (z : List ℕ) (ts : List Token) (f : Content) (led : List (List ℕ)) (leads : AreLedTo f.definitions f.process led) where
  runs_is : (o : Option ℕ) → is_run_item led z ts o ≡ true → IsRunItem z ts f o
  runs_is None e = absurd (false≢true e)
  runs_is (Some i) e = ⊎_elim (λ l. inl l)
      (λ r. let one = led_name led (defined_name z ts (suc i)) r in inr (one.0, defined_is z ts (suc i) one.0 one.1, leads.sound one.0 one.2))
      (or_cases (stands z ts (codes "process") i) (is_led led (defined_name z ts (suc i))) e)

  is_runs : (o : Option ℕ) → IsRunItem z ts f o → is_run_item led z ts o ≡ true
  is_runs None h = absurd h
  is_runs (Some i) h = ⊎_elim (λ l. or_left (stands z ts (codes "process") i) (is_led led (defined_name z ts (suc i))) l)
      (λ r. or_right (stands z ts (codes "process") i) (is_led led (defined_name z ts (suc i)))
      (name_led led (defined_name z ts (suc i)) r.0 (is_defined z ts (suc i) r.0 r.1) (leads.all r.0 r.2))) h

module _ (read : AreRead) (z : List ℕ) (ts : List Token) (f : Content) (led : List (List ℕ)) (x : List ℕ) (k : ℕ) where
  pub said_is : said_key f.signature z ts k ≡ Some x → IsSaidAt z ts f x k
  said_is e =
      let parts = if_some (in_statement z ts k) (fact_name f.signature z ts k) x e in
      record { is = name_is read z ts f.signature x k parts.1; said = parts.0 }

  pub is_said : IsSaidAt z ts f x k → said_key f.signature z ts k ≡ Some x
  is_said a = some_if (in_statement z ts k) (fact_name f.signature z ts k) x a.said (is_name read z ts f.signature x k a.is)

  pub shown_is : AreLedTo f.definitions f.process led → shown_key f.signature led z ts k ≡ Some x → IsShownAt z ts f x k
  shown_is leads e =
      let parts = if_some (is_shown z ts k && is_run_item led z ts (item_before z ts k)) (fact_name f.signature z ts k) x e in
      let both = and_parts (is_shown z ts k) (is_run_item led z ts (item_before z ts k)) parts.0 in
      record { is = name_is read z ts f.signature x k parts.1; shown = both.0; runs = runs_is z ts f led leads (item_before z ts k) both.1 }

  pub is_shown_at : AreLedTo f.definitions f.process led → IsShownAt z ts f x k → shown_key f.signature led z ts k ≡ Some x
  is_shown_at leads a = some_if (is_shown z ts k && is_run_item led z ts (item_before z ts k)) (fact_name f.signature z ts k) x
      (and_from (is_shown z ts k) (is_run_item led z ts (item_before z ts k)) a.shown (is_runs z ts f led leads (item_before z ts k) a.runs)) (is_name read z ts f.signature x k a.is)

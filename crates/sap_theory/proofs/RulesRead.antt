-- What is read is a rule, and each rule is read.
use Rattle.std.proofs.Common.{◌≡◌, ℕ, true, List, [], ◌∷◌, drop, Some, None, refl, sym, ap, subst, ◌∙◌}
use Rattle.std.specs.Prelude.{codes}
use Rattle.sap_terms.specs.declared.fact.Fact.{Fact}
use Rattle.sap_terms.specs.Signature.{Sig}
use Rattle.sap_rule.specs.declared.rule.Rule.{Rule}
use Rattle.sap_grammar.specs.declared.limits.Limits.{Limits}
use Rattle.sap_grammar.specs.Words.{Word, mark, name, starts}
use Rattle.sap_grammar.specs.Reading.{Read, after, given, name_at, past}
use Rattle.sap_grammar.specs.FactGrammar.{AreFacts}
use Rattle.sap_grammar.specs.TermReading.{facts}
use Rattle.sap_grammar.specs.TermLaws.{AreRead, AreSpelled}
use Rattle.sap_theory.specs.TheoryGrammar.{rule, IsRuleBody, body_silent, body_acts, IsWrittenItem, item_rule}
use Rattle.sap_theory.specs.code.RuleReading.{right_side, left_side, a_rule}
use Rattle.sap_grammar.proofs.ReadingLaws.OnRead.{Says, OnRead, on_all, on_read, after_on, given_on, if_on, past_on, starts_is, name_is}

-- all of the words
abbrev Whole : Sig → Limits → List Word → Says Rule
Whole g m ws r b = b ≡ [] → IsWrittenItem g m (rule r) ws

-- the same words are the facts of a rule under each signature
body_too : AreSpelled → (g h : Sig) (m : Limits) {l e r : List Fact} {a : List Word} → IsRuleBody g m l e r a
    → (k : List Fact) × (d : List Fact) × (s : List Fact) × IsRuleBody h m k d s a
body_too laws g h m (body_silent {l = l} {r = r} p q) =
    let u = laws.facts_too g h m true (codes "]") l _ _ p in
    let v = laws.facts_too g h m true (codes "]") r _ _ q in
    (u.0, [], v.0, body_silent u.1 v.1)
body_too laws g h m (body_acts {l = l} {e = e} {r = r} p q s) =
    let u = laws.facts_too g h m true (codes "]") l _ _ p in
    let v = laws.facts_too g h m true (codes "]->") e _ _ q in
    let w = laws.facts_too g h m true (codes "]") r _ _ s in
    (u.0, v.0, w.0, body_acts u.1 v.1 w.1)

module _ (laws : AreRead) where
  -- What is written so is read: a closing mark is neither a comma nor `!`.
  square_read : {g : Sig} {m : Limits} {fs : List Fact} {a b : List Word} → AreFacts g m true (codes "]") fs a b → facts g m true (codes "]") a ≡ Some (fs, b)
  square_read {g = g} {m = m} {fs = fs} {a = a} {b = b} r = laws.facts_read g m true (codes "]") fs a b (λ e. absurd (cc (e))) (λ e. absurd (cc (e))) r

  acts_read : {g : Sig} {m : Limits} {fs : List Fact} {a b : List Word} → AreFacts g m true (codes "]->") fs a b → facts g m true (codes "]->") a ≡ Some (fs, b)
  acts_read {g = g} {m = m} {fs = fs} {a = a} {b = b} r = laws.facts_read g m true (codes "]->") fs a b (λ e. absurd (cc (e))) (λ e. absurd (cc (e))) r

  body_read : {g : Sig} {m : Limits} {x : List ℕ} {l e r : List Fact} {a : List Word} → IsRuleBody g m l e r a
      → a_rule g m (mark (codes "rule") ∷ name x ∷ mark (codes ":") ∷ a) ≡ Some (record { name = x; left = l; acts = e; right = r }, [])
  unfolding after given past
  body_read (body_silent p q) = rw (square_read p, square_read q) refl
  body_read (body_acts p q s) = rw (square_read p, acts_read q, square_read s) refl

  -- What is read is written so.
  facts_sound : (g : Sig) (m : Limits) (w : List ℕ) (ts : List Word) → OnRead (λ fs b. AreFacts g m true w fs ts b) (facts g m true w ts)
  facts_sound g m w ts = on_all (λ fs b. AreFacts g m true w fs ts b) (facts g m true w ts) (λ fs b e. laws.facts_are g m true w fs ts b e)

  module _ (g : Sig) (m : Limits) (x : List ℕ) (a : List Word) where
    abbrev Q : Says Rule
    Q = Whole g m (mark (codes "rule") ∷ name x ∷ mark (codes ":") ∷ mark (codes "[") ∷ a)

    facts_on : {w : List ℕ} {fs : List Fact} {a b c : List Word} → AreFacts g m true w fs a b → b ≡ c → AreFacts g m true w fs a c
    facts_on {w = w} {fs = fs} {a = a} r e = subst (λ (y : List Word). AreFacts g m true w fs a y) e r

    right_sound : (l e : List Fact) (ts : List Word)
        → ((r : List Fact) → ts ≡ mark (codes "[") ∷ drop 1 ts → AreFacts g m true (codes "]") r (drop 1 ts) [] → IsRuleBody g m l e r (mark (codes "[") ∷ a))
        → OnRead Q (right_side g m x l e ts)
    right_sound l e ts made =
        past_on Q (codes "[") ts _ (λ w.
        after_on (λ fs b. AreFacts g m true (codes "]") fs (drop 1 ts) b) Q (facts g m true (codes "]") (drop 1 ts)) _ (facts_sound g m (codes "]") (drop 1 ts)) (λ fs b h none.
        item_rule (made fs w (facts_on h none))))

    left_sound : OnRead Q (left_side g m x a)
    left_sound =
        after_on (λ fs b. AreFacts g m true (codes "]") fs a b) Q (facts g m true (codes "]") a) _ (facts_sound g m (codes "]") a) (λ l r h.
        if_on Q (starts (codes "-->") r) _ _
        (λ e. right_sound l [] (drop 1 r) (λ fs w k. body_silent (facts_on h (starts_is (codes "-->") r e ∙ ap (λ q. mark (codes "-->") ∷ q) w)) k))
        (λ _. past_on Q (codes "--[") r _ (λ e.
        after_on (λ fs b. AreFacts g m true (codes "]->") fs (drop 1 r) b) Q (facts g m true (codes "]->") (drop 1 r)) _ (facts_sound g m (codes "]->") (drop 1 r)) (λ es y k.
        right_sound l es y (λ fs w i. body_acts (facts_on h e) (facts_on k w) i)))))

  module _ (g : Sig) (m : Limits) where
    rule_from : {r : Rule} {a c : List Word} → IsWrittenItem g m (rule r) a → c ≡ a → IsWrittenItem g m (rule r) c
    rule_from {r = r} h e = subst (λ (y : List Word). IsWrittenItem g m (rule r) y) (sym e) h

    rule_sound : (ws : List Word) → OnRead (Whole g m ws) (a_rule g m ws)
    rule_sound ws =
        let Q : Says Rule = Whole g m ws in
        past_on Q (codes "rule") ws _ (λ e.
        given_on Q (name_at (drop 1 ws)) _ (λ x n.
        let r : List Word = drop 1 (drop 1 ws) in
        past_on Q (codes ":") r _ (λ c.
        past_on Q (codes "[") (drop 1 r) _ (λ o.
        let a : List Word = drop 1 (drop 1 r) in
        let all : ws ≡ mark (codes "rule") ∷ name x ∷ mark (codes ":") ∷ mark (codes "[") ∷ a =
        e ∙ ap (λ (q : List Word). mark (codes "rule") ∷ q) (name_is (drop 1 ws) x n ∙ ap (λ (q : List Word). name x ∷ q) (c ∙ ap (λ (q : List Word). mark (codes ":") ∷ q) o)) in
        subst (λ (y : List Word). OnRead (Whole g m y) (left_side g m x a)) (sym all) (left_sound g m x a)))))

    pub rule_is : (r : Rule) (ws : List Word) → a_rule g m ws ≡ Some (r, []) → IsWrittenItem g m (rule r) ws
    rule_is r ws e = on_read (Whole g m ws) r [] e (rule_sound ws) refl

  module _ (spelled : AreSpelled) where
    -- words that are a rule under some signature are read to the last word under each
    whole_read : (g h : Sig) (m : Limits) {r : Rule} {ws : List Word} → IsWrittenItem h m (rule r) ws → (s : Rule) × (a_rule g m ws ≡ Some (s, []))
    whole_read g h m (item_rule b) = let t = body_too spelled h g m b in (record { name = _; left = t.0; acts = t.1; right = t.2 }, body_read t.3)

    -- what reading says of each signature
    module _ (g : Sig) (m : Limits) (ws : List Word) where
      pub no_rule : a_rule g m ws ≡ None → (h : Sig) (r : Rule) → IsWrittenItem h m (rule r) ws → ⊥
      no_rule e h r k = let other = whole_read g h m k in let found = other.1 in absurd (cc (e, found))

      pub no_other_rule : (v : Rule) (b : List Word) → a_rule g m ws ≡ Some (v, b) → (b ≡ [] → ⊥) → (h : Sig) (r : Rule) → IsWrittenItem h m (rule r) ws → ⊥
      no_other_rule v b e more h r k =
          let other = whole_read g h m k in
          let same : ◌≡◌ {A = Read Rule} (Some (v, b)) (Some (other.0, [])) = sym e ∙ other.1 in
          let both : ◌≡◌ {A = Rule × List Word} (v, b) (other.0, []) = cc in
          more (ap (λ (y : Rule × List Word). y.1) both)

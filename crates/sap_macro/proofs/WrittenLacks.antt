-- Traces that small files lack, as they are written.
use Rattle.std.proofs.Common.{◌≡◌, ℕ, List, [], ◌∷◌, ◌++◌, false, refl, sym, ap, subst, ◌∙◌, ⊎_elim, inl, inr}
use Rattle.std.specs.Prelude.{◌⊎◌, codes, Contains}
use Rattle.std.specs.Str.{bytes_eq}
use Rattle.std.proofs.lemmas.List.Elements.{Contains-append_left, Contains-append_right}
use Rattle.sap_rewrite.specs.Laws.{FormIsOne, EqualityIsKept}
use Rattle.sap_terms.specs.AdversaryFacts.{k_fact}
use Rattle.sap_terms.specs.Choice.{Choice}
use Rattle.sap_terms.specs.Equal.{IsTheoryEqual, same, next, forward, backward}
use Rattle.sap_terms.specs.Equations.{Equations, equations, first, second, fst_name, snd_name}
use Rattle.sap_terms.specs.Ground.{IsGround}
use Rattle.sap_terms.specs.Laws.{LeavesAreNormal}
use Rattle.sap_terms.specs.Modulo.{IsFormOfFact}
use Rattle.sap_terms.specs.Normal.{IsNormalForm}
use Rattle.sap_terms.specs.Signature.{Sig}
use Rattle.sap_terms.specs.Trace.{Trace}
use Rattle.sap_terms.specs.Tree.{Tree, fresh, apply, trees_of}
use Rattle.sap_terms.specs.Variables.{tree_vars}
use Rattle.sap_terms.specs.declared.fact.Fact.{Fact}
use Rattle.sap_terms.specs.declared.var.Sort.TheVariants.{Msg, Fresh}
use Rattle.sap_process.specs.Action.{new, input, event, insert, lock, unlock}
use Rattle.sap_process.specs.Head as head
use Rattle.sap_process.specs.Head.{Head}
use Rattle.sap_process.specs.ProcessSteps.{chosen}
use Rattle.sap_macro.specs.ExpansionExamples.{using_plain, a, b, of_name, fresh_of, taking}
use Rattle.sap_macro.specs.Instances.{instance_by}
use Rattle.sap_macro.specs.NameExamples.{both}
use Rattle.sap_macro.specs.SortedExamples.{using_b}
use Rattle.sap_macro.specs.UpToNames.{named}
use Rattle.sap_macro.specs.Written.{Written, nil, call, Definition}
use Rattle.sap_macro.specs.WrittenExamples.{telling_x, use_twin, told, told_both, new_at, got_at, taking_twice, taking_other, use_taken, same_one, two_apart, put_at, showing, telling, using_a, using_put, use_a, naming_x, use_named, naming_z, naming_often, testing, use_testing, telling_y, use_plain, unlocking, telling_put, inserting, putting, x_name, two_puts, use_store}
use Rattle.sap_macro.specs.WrittenRuns.{StartsWith, sorted_definition, IsFileTrace}
use Rattle.sap_macro.proofs.WrittenByHand.{other_name}
use Rattle.sap_macro.proofs.WrittenHeads.{form_alone, use_alone}
use Rattle.sap_macro.proofs.GroundForms.{form_is_ground, ground_stays}
use Rattle.sap_macro.proofs.WrittenFiles.{running, public_form, fresh_form, apart_names}
use Rattle.sap_macro.proofs.WrittenKeeping.{Keeps, Holds, shows_none, is_not_shown}
use Rattle.sap_terms.proofs.PlainLaws.Items.{first_item, item_cases, cons_cases, none_contained}

-- what is so of two items is so of each in their list
one_of_two : (P : Definition → Type 0) (d e f : Definition) → Contains (d ∷ e ∷ []) f → P d → P e → P f
one_of_two P d e f c p q = ⊎_elim (λ s. subst P s p) (λ k. subst P (item_cases e f k) q) (cons_cases d (e ∷ []) f c)

-- behind one definition a use starts with what the instance starts with
one_use : (d : Definition) (ts : List Tree) (h : Head Written) → StartsWith (d ∷ []) (call d.name ts) h → StartsWith (d ∷ []) (instance_by d ts) h
one_use d ts h s =
    let u = use_alone (d ∷ []) h d.name ts s in
    subst (λ e. StartsWith (d ∷ []) (instance_by e ts) h) (sym (item_cases d u.definition u.there)) u.starts

-- of facts with two arguments
forms_of_two : (g : Sig) (n k : List ℕ) (t u v w : Tree) (h : Fact) → IsFormOfFact (equations g) (record { name = n; persistent = false; args = t ∷ u ∷ [] }) h
    → h ∷ [] ≡ record { name = k; persistent = false; args = v ∷ w ∷ [] } ∷ [] → (k ≡ n) × IsNormalForm (equations g) t v × IsNormalForm (equations g) u w
forms_of_two g n k t u v w h f e =
    let is : h ≡ record { name = k; persistent = false; args = v ∷ w ∷ [] } = cc in
    let form : IsFormOfFact (equations g) (record { name = n; persistent = false; args = t ∷ u ∷ [] }) (record { name = k; persistent = false; args = v ∷ w ∷ [] }) =
    subst (IsFormOfFact (equations g) (record { name = n; persistent = false; args = t ∷ u ∷ [] })) is f in
    (form.name, form.args.0, form.args.1.0)

-- what the adversary knows is no event of another name
no_k : (f : Fact) (t : Tree) → bytes_eq f.name (codes "K") ≡ false → ¬ (k_fact t ∷ [] ≡ f ∷ [])
no_k f t other e = let is : k_fact t ≡ f = cc in other_name f.name (codes "K") other refl (sym (ap (λ (h : Fact). h.name) is))

-- ---- let A(x,y) = if x = y then event Same(x) else event Apart(x,y); A('a','b')

data Testing : Trace → List ℕ → Written → Type 0 where
  whole : {tr : Trace} {m : List ℕ} → Testing tr m use_testing
  equals : {tr : Trace} {m : List ℕ} → Testing tr m (showing (same_one a))
  others : {tr : Trace} {m : List ℕ} → Testing tr m (showing (two_apart a b))
  ended : {tr : Trace} {m : List ℕ} → Testing tr m nil

stays_testing : {tr us : Trace} {m n : List ℕ} {w : Written} → Testing tr m w → Testing us n w
stays_testing whole = whole
stays_testing equals = equals
stays_testing others = others
stays_testing ended = ended

module _ (normal : LeavesAreNormal) (unique : FormIsOne) (g : Sig) where
  abbrev tests : List Definition
  tests = running (testing ∷ [])

  abbrev SwappedApart : Trace → List Fact → Type 0
  SwappedApart tr fs = fs ≡ two_apart b a ∷ []

  testing_heads : (tr : Trace) (m : List ℕ) (w : Written) (h : Head Written) → Testing tr m w → StartsWith tests w h → Keeps g tests Testing SwappedApart tr m h
  testing_heads tr m _ h whole s =
      subst (Keeps g tests Testing SwappedApart tr m)
      (sym (form_alone tests h (head.test a b (showing (same_one a)) (showing (two_apart a b))) (one_use (sorted_definition testing) (a ∷ b ∷ []) h s)))
      (λ e. equals, λ n. others)
  testing_heads tr m _ h equals s =
      subst (Keeps g tests Testing SwappedApart tr m) (sym (form_alone tests h (head.act (event (same_one a)) nil) s))
      (λ k f. (λ e. let is : k ≡ two_apart b a = cc in other_name (codes "Apart") (codes "Same") refl refl (sym (ap (λ (f : Fact). f.name) is) ∙ f.name), ended))
  testing_heads tr m _ h others s =
      subst (Keeps g tests Testing SwappedApart tr m) (sym (form_alone tests h (head.act (event (two_apart a b)) nil) s))
      (λ k f. (λ e. apart_names normal g unique ((forms_of_two g (codes "Apart") (codes "Apart") a b b a k f e).1.equal), ended))
  testing_heads tr m _ h ended s = subst (Keeps g tests Testing SwappedApart tr m) (sym (form_alone tests h head.nil s)) tt

  testing_holds : Holds g tests Testing SwappedApart
  testing_holds = record {
    more_made = λ tr m n w. stays_testing;
    more_shown = λ tr m fs w. stays_testing;
    heads = testing_heads;
    known = λ tr t e. no_k (two_apart b a) t refl e;
  }

  pub not_swapped : (tr : Trace) → IsFileTrace g (testing ∷ []) use_testing tr → ¬ Contains tr (two_apart b a ∷ [])
  not_swapped tr is m =
      let clean = shows_none g tests Testing SwappedApart testing_holds use_testing whole tr is in
      (is_not_shown g tests Testing SwappedApart [] tr (two_apart b a ∷ []) clean m).1 refl

-- ---- let B(z) = new ~n; event N(z,~n); let A(x) = ! B(x); A('a')

data Naming : Trace → List ℕ → Written → Type 0 where
  whole_naming : {tr : Trace} {m : List ℕ} → Naming tr m use_a
  copied : {tr : Trace} {m : List ℕ} → Naming tr m (using_b a)
  named_one : {tr : Trace} {m : List ℕ} (n : ℕ) → Naming tr m (showing (new_at a (fresh n)))
  ended_naming : {tr : Trace} {m : List ℕ} → Naming tr m nil

stays_naming : {tr us : Trace} {m n : List ℕ} {w : Written} → Naming tr m w → Naming us n w
stays_naming whole_naming = whole_naming
stays_naming copied = copied
stays_naming (named_one n) = named_one n
stays_naming ended_naming = ended_naming

module _ (normal : LeavesAreNormal) (unique : FormIsOne) (g : Sig) where
  abbrev names : List Definition
  names = running (naming_z ∷ naming_often ∷ [])

  abbrev OfOther : Trace → List Fact → Type 0
  OfOther tr fs = (t : Tree) × (fs ≡ new_at b t ∷ [])

  often_starts : (h : Head Written) → StartsWith names use_a h → h ≡ head.replicated (using_b a)
  often_starts h s =
      let u = use_alone names h (codes "A") (a ∷ []) s in
      one_of_two (λ d. d.name ≡ codes "A" → StartsWith names (instance_by d (a ∷ [])) h → h ≡ head.replicated (using_b a)) (sorted_definition naming_z) (sorted_definition naming_often) u.definition u.there
      (λ e r. absurd (other_name (codes "B") (codes "A") refl refl e)) (λ e r. form_alone names h (head.replicated (using_b a)) r) u.named u.starts

  abbrev making_n : Head Written
  making_n = head.act (new (named (codes "n") Fresh)) (showing (new_at a (fresh_of (codes "n"))))

  copy_starts : (h : Head Written) → StartsWith names (using_b a) h → h ≡ making_n
  copy_starts h s =
      let u = use_alone names h (codes "B") (a ∷ []) s in
      one_of_two (λ d. d.name ≡ codes "B" → StartsWith names (instance_by d (a ∷ [])) h → h ≡ making_n) (sorted_definition naming_z) (sorted_definition naming_often) u.definition u.there
      (λ e r. form_alone names h making_n r) (λ e r. absurd (other_name (codes "A") (codes "B") refl refl e)) u.named u.starts

  naming_heads : (tr : Trace) (m : List ℕ) (w : Written) (h : Head Written) → Naming tr m w → StartsWith names w h → Keeps g names Naming OfOther tr m h
  naming_heads tr m _ h whole_naming s = subst (Keeps g names Naming OfOther tr m) (sym (often_starts h s)) copied
  naming_heads tr m _ h copied s = subst (Keeps g names Naming OfOther tr m) (sym (copy_starts h s)) (λ n unused. named_one n)
  naming_heads tr m _ h (named_one n) s =
      subst (Keeps g names Naming OfOther tr m) (sym (form_alone names h (head.act (event (new_at a (fresh n))) nil) s))
      (λ k f. (λ e. apart_names normal g unique ((forms_of_two g (codes "N") (codes "N") a (fresh n) b e.0 k f e.1).1.equal), ended_naming))
  naming_heads tr m _ h ended_naming s = subst (Keeps g names Naming OfOther tr m) (sym (form_alone names h head.nil s)) tt

  naming_holds : Holds g names Naming OfOther
  naming_holds = record {
    more_made = λ tr m n w. stays_naming;
    more_shown = λ tr m fs w. stays_naming;
    heads = naming_heads;
    known = λ tr t e. no_k (new_at b e.0) t refl e.1;
  }

  pub not_of_other : (tr : Trace) (t : Tree) → IsFileTrace g (naming_z ∷ naming_often ∷ []) use_a tr → ¬ Contains tr (new_at b t ∷ [])
  not_of_other tr t is m =
      let clean = shows_none g names Naming OfOther naming_holds use_a whole_naming tr is in
      (is_not_shown g names Naming OfOther [] tr (new_at b t ∷ []) clean m).1 (t, refl)

-- ---- let C = event E(y); in(y); C

data Plain : Trace → List ℕ → Written → Type 0 where
  whole_plain : {tr : Trace} {m : List ℕ} → Plain tr m (taking (of_name (codes "y")) (telling (of_name (codes "y"))))
  told_ground : {tr : Trace} {m : List ℕ} {t : Tree} → IsGround t → Plain tr m (telling t)
  ended_plain : {tr : Trace} {m : List ℕ} → Plain tr m nil

stays_plain : {tr us : Trace} {m n : List ℕ} {w : Written} → Plain tr m w → Plain us n w
stays_plain whole_plain = whole_plain
stays_plain (told_ground h) = told_ground h
stays_plain ended_plain = ended_plain

module _ (unique : FormIsOne) (kept : EqualityIsKept) (g : Sig) where
  abbrev plains : List Definition
  plains = running (telling_y ∷ [])

  abbrev ToldVariable : Trace → List Fact → Type 0
  ToldVariable tr fs = fs ≡ told (of_name (codes "y")) ∷ []

  form_of_told : (t u : Tree) (h : Fact) → IsFormOfFact (equations g) (told t) h → h ∷ [] ≡ told u ∷ [] → IsNormalForm (equations g) t u
  form_of_told t u h f e =
      let is : h ≡ told u = cc in
      let form : IsFormOfFact (equations g) (told t) (told u) = subst (IsFormOfFact (equations g) (told t)) is f in
      form.args.0

  plain_heads : (tr : Trace) (m : List ℕ) (w : Written) (h : Head Written) → Plain tr m w → StartsWith plains w h → Keeps g plains Plain ToldVariable tr m h
  plain_heads tr m _ h whole_plain s =
      subst (Keeps g plains Plain ToldVariable tr m) (sym (form_alone plains h (head.act (input (of_name (codes "y"))) (telling (of_name (codes "y")))) s))
      (λ σ x fits. told_ground ((fits.messages (named (codes "y") Msg)).ground))
  plain_heads tr m _ h (told_ground {t = t} ground) s =
      subst (Keeps g plains Plain ToldVariable tr m) (sym (form_alone plains h (head.act (event (told t)) nil) s))
      (λ k f. (λ e. form_is_ground unique kept (equations g) t (of_name (codes "y")) ground (form_of_told t (of_name (codes "y")) k f e), ended_plain))
  plain_heads tr m _ h ended_plain s = subst (Keeps g plains Plain ToldVariable tr m) (sym (form_alone plains h head.nil s)) tt

  plain_holds : Holds g plains Plain ToldVariable
  plain_holds = record {
    more_made = λ tr m n w. stays_plain;
    more_shown = λ tr m fs w. stays_plain;
    heads = plain_heads;
    known = λ tr t e. no_k (told (of_name (codes "y"))) t refl e;
  }

  pub not_variable : (tr : Trace) → IsFileTrace g (telling_y ∷ []) use_plain tr → ¬ Contains tr (told (of_name (codes "y")) ∷ [])
  not_variable tr is m =
      let clean = shows_none g plains Plain ToldVariable plain_holds (taking (of_name (codes "y")) (telling (of_name (codes "y")))) whole_plain tr is in
      (is_not_shown g plains Plain ToldVariable [] tr (told (of_name (codes "y")) ∷ []) clean m).1 refl

-- ---- let Put(key,value) = lock key; insert key, value; event Put(key,value); unlock key; new ~n; ( Put('a',~n) | Put('b','x') )

-- what the two uses put
data Put : Tree → Tree → Type 0 where
  a_name : (n : ℕ) → Put a (fresh n)
  b_x : Put b x_name

data Putting : Trace → List ℕ → Written → Type 0 where
  whole_puts : {tr : Trace} {m : List ℕ} → Putting tr m use_store
  both_put : {tr : Trace} {m : List ℕ} (n : ℕ) → Putting tr m (two_puts (fresh n))
  puts_one : {tr : Trace} {m : List ℕ} {t u : Tree} → Put t u → Putting tr m (using_put t u)
  inserts_one : {tr : Trace} {m : List ℕ} {t u : Tree} → Put t u → Putting tr m (inserting t u)
  shows_one : {tr : Trace} {m : List ℕ} {t u : Tree} → Put t u → Putting tr m (telling_put t u)
  unlocks_one : {tr : Trace} {m : List ℕ} {t : Tree} → Putting tr m (unlocking t)
  ended_puts : {tr : Trace} {m : List ℕ} → Putting tr m nil

stays_putting : {tr us : Trace} {m n : List ℕ} {w : Written} → Putting tr m w → Putting us n w
stays_putting whole_puts = whole_puts
stays_putting (both_put n) = both_put n
stays_putting (puts_one p) = puts_one p
stays_putting (inserts_one p) = inserts_one p
stays_putting (shows_one p) = shows_one p
stays_putting unlocks_one = unlocks_one
stays_putting ended_puts = ended_puts

module _ (normal : LeavesAreNormal) (unique : FormIsOne) (g : Sig) where
  abbrev putters : List Definition
  putters = running (putting ∷ [])

  abbrev PutOther : Trace → List Fact → Type 0
  PutOther tr fs = fs ≡ put_at a x_name ∷ []

  no_other_put : {t u : Tree} → Put t u → IsNormalForm (equations g) t a → IsNormalForm (equations g) u x_name → ⊥
  no_other_put (a_name n) f h = let e : fresh n ≡ x_name = unique (equations g) (fresh n) (fresh n) x_name (fresh_form normal g n) h in cc
  no_other_put b_x f h = apart_names normal g unique (record_back f)
    where
      record_back : IsNormalForm (equations g) b a → IsTheoryEqual (equations g) a b
      record_back k = subst (λ t. IsTheoryEqual (equations g) t b) (unique (equations g) b b a (public_form normal g (codes "b")) k) same

  putting_heads : (tr : Trace) (m : List ℕ) (w : Written) (h : Head Written) → Putting tr m w → StartsWith putters w h → Keeps g putters Putting PutOther tr m h
  putting_heads tr m _ h whole_puts s =
      subst (Keeps g putters Putting PutOther tr m) (sym (form_alone putters h (head.act (new (named (codes "n") Fresh)) (two_puts (fresh_of (codes "n")))) s))
      (λ n unused. both_put n)
  putting_heads tr m _ h (both_put n) s =
      subst (Keeps g putters Putting PutOther tr m) (sym (form_alone putters h (head.parallel (using_put a (fresh n)) (using_put b x_name)) s))
      (puts_one (a_name n), puts_one b_x)
  putting_heads tr m _ h (puts_one {t = t} {u = u} p) s =
      subst (Keeps g putters Putting PutOther tr m)
      (sym (form_alone putters h (head.act (lock t 0) (inserting t u)) (one_use (sorted_definition putting) (t ∷ u ∷ []) h s)))
      (inserts_one p)
  putting_heads tr m _ h (inserts_one {t = t} {u = u} p) s =
      subst (Keeps g putters Putting PutOther tr m) (sym (form_alone putters h (head.act (insert t u) (telling_put t u)) s)) (shows_one p)
  putting_heads tr m _ h (shows_one {t = t} {u = u} p) s =
      subst (Keeps g putters Putting PutOther tr m) (sym (form_alone putters h (head.act (event (put_at t u)) (unlocking t)) s))
      (λ k f. (λ e. let forms = forms_of_two g (codes "Put") (codes "Put") t u a x_name k f e in no_other_put p forms.1 forms.2, unlocks_one))
  putting_heads tr m _ h (unlocks_one {t = t}) s = subst (Keeps g putters Putting PutOther tr m) (sym (form_alone putters h (head.act (unlock t 0) nil) s)) ended_puts
  putting_heads tr m _ h ended_puts s = subst (Keeps g putters Putting PutOther tr m) (sym (form_alone putters h head.nil s)) tt

  putting_holds : Holds g putters Putting PutOther
  putting_holds = record {
    more_made = λ tr m n w. stays_putting;
    more_shown = λ tr m fs w. stays_putting;
    heads = putting_heads;
    known = λ tr t e. no_k (put_at a x_name) t refl e;
  }

  pub not_put : (tr : Trace) → IsFileTrace g (putting ∷ []) use_store tr → ¬ Contains tr (put_at a x_name ∷ [])
  not_put tr is m =
      let clean = shows_none g putters Putting PutOther putting_holds use_store whole_puts tr is in
      (is_not_shown g putters Putting PutOther [] tr (put_at a x_name ∷ []) clean m).1 refl

-- ---- let A(x) = new ~n; event E(x,~n); new ~n; A(~n)

data Twice : Trace → List ℕ → Written → Type 0 where
  whole_twice : {tr : Trace} {m : List ℕ} → Twice tr m use_named
  used : {tr : Trace} {m : List ℕ} (n : ℕ) → Contains m n → Twice tr m (using_a (fresh n))
  two_names : {tr : Trace} {m : List ℕ} (n k : ℕ) → ¬ (n ≡ k) → Twice tr m (showing (told_both (fresh n) (fresh k)))
  ended_twice : {tr : Trace} {m : List ℕ} → Twice tr m nil

twice_more_made : {tr : Trace} {m : List ℕ} {w : Written} (k : ℕ) → Twice tr m w → Twice tr (m ++ k ∷ []) w
twice_more_made k whole_twice = whole_twice
twice_more_made {m = m} k (used n c) = used n (Contains-append_left m (k ∷ []) n c)
twice_more_made k (two_names n i h) = two_names n i h
twice_more_made k ended_twice = ended_twice

twice_more_shown : {tr us : Trace} {m : List ℕ} {w : Written} → Twice tr m w → Twice us m w
twice_more_shown whole_twice = whole_twice
twice_more_shown (used n c) = used n c
twice_more_shown (two_names n i h) = two_names n i h
twice_more_shown ended_twice = ended_twice

module _ (normal : LeavesAreNormal) (unique : FormIsOne) (g : Sig) where
  abbrev twice : List Definition
  twice = running (naming_x ∷ [])

  abbrev ToldTwice : Trace → List Fact → Type 0
  ToldTwice tr fs = (t : Tree) × (fs ≡ told_both t t ∷ [])

  two_forms : (n k : ℕ) (t : Tree) → IsNormalForm (equations g) (fresh n) t → IsNormalForm (equations g) (fresh k) t → n ≡ k
  two_forms n k t f h =
      let e : fresh n ≡ t = unique (equations g) (fresh n) (fresh n) t (fresh_form normal g n) f in
      let i : fresh k ≡ t = unique (equations g) (fresh k) (fresh k) t (fresh_form normal g k) h in
      let o : fresh n ≡ fresh k = e ∙ sym i in
      cc

  twice_heads : (tr : Trace) (m : List ℕ) (w : Written) (h : Head Written) → Twice tr m w → StartsWith twice w h → Keeps g twice Twice ToldTwice tr m h
  twice_heads tr m _ h whole_twice s =
      subst (Keeps g twice Twice ToldTwice tr m) (sym (form_alone twice h (head.act (new (named (codes "n") Fresh)) (using_a (fresh_of (codes "n")))) s))
      (λ n unused. used n (Contains-append_right m (n ∷ []) n (first_item n [])))
  twice_heads tr m _ h (used n c) s =
      subst (Keeps g twice Twice ToldTwice tr m)
      (sym (form_alone twice h (head.act (new (named (codes "n") Fresh)) (showing (told_both (fresh n) (fresh_of (codes "n"))))) (one_use (sorted_definition naming_x) (fresh n ∷ []) h s)))
      (λ k unused. two_names n k (λ e. unused (subst (Contains m) e c)))
  twice_heads tr m _ h (two_names n k other) s =
      subst (Keeps g twice Twice ToldTwice tr m) (sym (form_alone twice h (head.act (event (told_both (fresh n) (fresh k))) nil) s))
      (λ i f. (λ e. let forms = forms_of_two g (codes "E") (codes "E") (fresh n) (fresh k) e.0 e.0 i f e.1 in other (two_forms n k e.0 forms.1 forms.2), ended_twice))
  twice_heads tr m _ h ended_twice s = subst (Keeps g twice Twice ToldTwice tr m) (sym (form_alone twice h head.nil s)) tt

  twice_holds : Holds g twice Twice ToldTwice
  twice_holds = record {
    more_made = λ tr m n w. twice_more_made n;
    more_shown = λ tr m fs w. twice_more_shown;
    heads = twice_heads;
    known = λ tr t e. no_k (told_both e.0 e.0) t refl e.1;
  }

  pub not_one_name : (tr : Trace) (t : Tree) → IsFileTrace g (naming_x ∷ []) use_named tr → ¬ Contains tr (told_both t t ∷ [])
  not_one_name tr t is m =
      let clean = shows_none g twice Twice ToldTwice twice_holds use_named whole_twice tr is in
      (is_not_shown g twice Twice ToldTwice [] tr (told_both t t ∷ []) clean m).1 (t, refl)

-- ---- let A(k) = in(<~x,x>); event Got(x,k); A('a')

module _ (kept : EqualityIsKept) (e : Equations) where
  firsts : (t u v w : Tree) → IsTheoryEqual e (both t u) (both v w) → IsTheoryEqual e t v
  firsts t u v w h =
      kept.onwards e t (apply fst_name (trees_of (both t u ∷ []))) v (next (backward first) same)
      (kept.onwards e (apply fst_name (trees_of (both t u ∷ []))) (apply fst_name (trees_of (both v w ∷ []))) v
      (kept.under_symbols e fst_name (both t u ∷ []) (both v w ∷ []) (h, tt)) (next (forward first) same))

  seconds : (t u v w : Tree) → IsTheoryEqual e (both t u) (both v w) → IsTheoryEqual e u w
  seconds t u v w h =
      kept.onwards e u (apply snd_name (trees_of (both t u ∷ []))) w (next (backward second) same)
      (kept.onwards e (apply snd_name (trees_of (both t u ∷ []))) (apply snd_name (trees_of (both v w ∷ []))) w
      (kept.under_symbols e snd_name (both t u ∷ []) (both v w ∷ []) (h, tt)) (next (forward second) same))

-- the first argument of the first fact
first_term : List Tree → Tree
first_term [] = a
first_term (t ∷ ts) = t

first_arg : List Fact → Tree
first_arg [] = a
first_arg (f ∷ fs) = first_term f.args

one_known : (t u : Tree) → k_fact t ∷ [] ≡ k_fact u ∷ [] → t ≡ u
unfolding first_arg first_term
one_known t u e = ap first_arg e

-- the pattern's name stands for one term, in both places
data Twin (g : Sig) : Trace → List ℕ → Written → Type 0 where
  whole_twin : {tr : Trace} {m : List ℕ} → Twin g tr m use_a
  got_one : {tr : Trace} {m : List ℕ} (s x : Tree) → Contains tr (k_fact x ∷ []) → IsTheoryEqual (equations g) (both s s) x → Twin g tr m (showing (got_at s a))
  ended_twin : {tr : Trace} {m : List ℕ} → Twin g tr m nil

twin_more_made : {g : Sig} {tr : Trace} {m n : List ℕ} {w : Written} → Twin g tr m w → Twin g tr n w
twin_more_made whole_twin = whole_twin
twin_more_made (got_one s x c h) = got_one s x c h
twin_more_made ended_twin = ended_twin

twin_more_shown : {g : Sig} {tr : Trace} {m : List ℕ} {w : Written} (fs : List Fact) → Twin g tr m w → Twin g (tr ++ fs ∷ []) m w
twin_more_shown fs whole_twin = whole_twin
twin_more_shown {tr = tr} fs (got_one s x c h) = got_one s x (Contains-append_left tr (fs ∷ []) (k_fact x ∷ []) c) h
twin_more_shown fs ended_twin = ended_twin

module _ (normal : LeavesAreNormal) (unique : FormIsOne) (kept : EqualityIsKept) (g : Sig) where
  abbrev twins : List Definition
  twins = running (taking_twice ∷ [])

  -- K(<~1,'a'>)
  abbrev knows_other : List Fact
  knows_other = k_fact (both (fresh 1) a) ∷ []

  abbrev GotBehind : Trace → List Fact → Type 0
  GotBehind tr fs = (tr ≡ knows_other ∷ []) × ((t : Tree) × (fs ≡ got_at t a ∷ []))

  no_twin : (s x : Tree) → Contains (knows_other ∷ []) (k_fact x ∷ []) → IsTheoryEqual (equations g) (both s s) x → ⊥
  no_twin s x c h =
      let is : x ≡ both (fresh 1) a = sym (one_known (both (fresh 1) a) x (item_cases knows_other (k_fact x ∷ []) c)) in
      let equal : IsTheoryEqual (equations g) (both s s) (both (fresh 1) a) = subst (IsTheoryEqual (equations g) (both s s)) is h in
      let one : IsTheoryEqual (equations g) (fresh 1) s = kept.back (equations g) s (fresh 1) (firsts kept (equations g) s s (fresh 1) a equal) in
      let other : IsTheoryEqual (equations g) (fresh 1) a = kept.onwards (equations g) (fresh 1) s a one (seconds kept (equations g) s s (fresh 1) a equal) in
      let no : fresh 1 ≡ a = unique (equations g) (fresh 1) (fresh 1) a (fresh_form normal g 1) (record { equal = other; normal = normal.of_public_name (equations g) (codes "a") }) in
      cc

  abbrev gets_twin : Head Written
  gets_twin = head.act (input (both (fresh_of (codes "x")) (fresh_of (codes "x")))) (showing (got_at (fresh_of (codes "x")) a))

  twin_heads : (tr : Trace) (m : List ℕ) (w : Written) (h : Head Written) → Twin g tr m w → StartsWith twins w h → Keeps g twins (Twin g) GotBehind tr m h
  twin_heads tr m _ h whole_twin s =
      subst (Keeps g twins (Twin g) GotBehind tr m) (sym (form_alone twins h gets_twin (one_use (sorted_definition taking_twice) (a ∷ []) h s)))
      (λ σ x fits. got_one (σ (named (codes "x") Fresh)) x (Contains-append_right tr ((k_fact x ∷ []) ∷ []) (k_fact x ∷ []) (first_item (k_fact x ∷ []) [])) fits.equal)
  twin_heads tr m _ h (got_one t x c i) s =
      subst (Keeps g twins (Twin g) GotBehind tr m) (sym (form_alone twins h (head.act (event (got_at t a)) nil) s))
      (λ k f. (λ e. no_twin t x (subst (λ us. Contains us (k_fact x ∷ [])) e.0 c) i, ended_twin))
  twin_heads tr m _ h ended_twin s = subst (Keeps g twins (Twin g) GotBehind tr m) (sym (form_alone twins h head.nil s)) tt

  twin_holds : Holds g twins (Twin g) GotBehind
  twin_holds = record {
    more_made = λ tr m n w. twin_more_made;
    more_shown = λ tr m fs w. twin_more_shown fs;
    heads = twin_heads;
    known = λ tr t e. no_k (got_at e.1.0 a) t refl e.1.1;
  }

  pub not_two_sorts : (t : Tree) (tr : Trace) → ¬ IsFileTrace g (taking_twice ∷ []) use_a ((k_fact (both (fresh 1) a) ∷ []) ∷ (got_at t a ∷ []) ∷ tr)
  not_two_sorts t tr is =
      (shows_none g twins (Twin g) GotBehind twin_holds use_a whole_twin ((k_fact (both (fresh 1) a) ∷ []) ∷ (got_at t a ∷ []) ∷ tr) is).1.0 (refl, (t, refl))

-- ---- let A(x) = in(<y,x>); event E(x,y); in(y); A(y)

-- the adversary knew the first, and later the second
abbrev Behind : Tree → Tree → Trace → Type 0
Behind x y [] = ⊥
Behind x y (fs ∷ tr) = ((fs ≡ k_fact x ∷ []) × Contains tr (k_fact y ∷ [])) ⊎ Behind x y tr

behind_more : (x y : Tree) (tr us : Trace) → Behind x y tr → Behind x y (tr ++ us)
behind_more x y [] us h = absurd h
behind_more x y (fs ∷ tr) us (inl (e, c)) = inl (e, Contains-append_left tr us (k_fact y ∷ []) c)
behind_more x y (fs ∷ tr) us (inr h) = inr (behind_more x y tr us h)

behind_last : (x y : Tree) (tr : Trace) → Contains tr (k_fact x ∷ []) → Behind x y (tr ++ (k_fact y ∷ []) ∷ [])
behind_last x y [] c = absurd (none_contained c)
behind_last x y (fs ∷ tr) c = elim (cons_cases fs tr (k_fact x ∷ []) c) [
  | inl e ↦ inl (e, Contains-append_right tr ((k_fact y ∷ []) ∷ []) (k_fact y ∷ []) (first_item (k_fact y ∷ []) []))
  | inr k ↦ inr (behind_last x y tr k)
]

data Taken (g : Sig) : Trace → List ℕ → Written → Type 0 where
  whole_taken : {tr : Trace} {m : List ℕ} → Taken g tr m use_taken
  taken_one : {tr : Trace} {m : List ℕ} (s x : Tree) → IsGround s → Contains tr (k_fact x ∷ []) → IsTheoryEqual (equations g) s x → Taken g tr m (using_a s)
  taken_both : {tr : Trace} {m : List ℕ} (s u x y : Tree) → Behind x y tr → IsTheoryEqual (equations g) s x → IsTheoryEqual (equations g) (both u s) y
      → Taken g tr m (showing (told_both s u))
  ended_taken : {tr : Trace} {m : List ℕ} → Taken g tr m nil

taken_more_made : {g : Sig} {tr : Trace} {m n : List ℕ} {w : Written} → Taken g tr m w → Taken g tr n w
taken_more_made whole_taken = whole_taken
taken_more_made (taken_one s x i c h) = taken_one s x i c h
taken_more_made (taken_both s u x y b h k) = taken_both s u x y b h k
taken_more_made ended_taken = ended_taken

taken_more_shown : {g : Sig} {tr : Trace} {m : List ℕ} {w : Written} (fs : List Fact) → Taken g tr m w → Taken g (tr ++ fs ∷ []) m w
taken_more_shown fs whole_taken = whole_taken
taken_more_shown {tr = tr} fs (taken_one s x i c h) = taken_one s x i (Contains-append_left tr (fs ∷ []) (k_fact x ∷ []) c) h
taken_more_shown {tr = tr} fs (taken_both s u x y b h k) = taken_both s u x y (behind_more x y tr (fs ∷ []) b) h k
taken_more_shown fs ended_taken = ended_taken

module _ (normal : LeavesAreNormal) (unique : FormIsOne) (kept : EqualityIsKept) (g : Sig) where
  abbrev takers : List Definition
  takers = running (taking_other ∷ [])

  -- K('a'), and then K(<'a','b'>)
  abbrev knows_two : Trace
  knows_two = (k_fact a ∷ []) ∷ (k_fact (both a b) ∷ []) ∷ []

  abbrev ToldBehind : Trace → List Fact → Type 0
  ToldBehind tr fs = (tr ≡ knows_two) × ((s : Tree) × (t : Tree) × (fs ≡ told_both s t ∷ []))

  from_two : (x y : Tree) → Behind x y knows_two → (x ≡ a) × (y ≡ both a b)
  from_two x y (inl (e, c)) = (sym (one_known a x e), sym (one_known (both a b) y (item_cases (k_fact (both a b) ∷ []) (k_fact y ∷ []) c)))
  from_two x y (inr (inl (e, c))) = absurd (none_contained c)
  from_two x y (inr (inr h)) = absurd h

  not_taken_so : (s u x y : Tree) → Behind x y knows_two → IsTheoryEqual (equations g) s x → IsTheoryEqual (equations g) (both u s) y → ⊥
  not_taken_so s u x y shown_two h k =
      let two = from_two x y shown_two in
      let is_a : IsTheoryEqual (equations g) s a = subst (IsTheoryEqual (equations g) s) two.0 h in
      let is_b : IsTheoryEqual (equations g) s b = seconds kept (equations g) u s a b (subst (IsTheoryEqual (equations g) (both u s)) two.1 k) in
      apart_names normal g unique (kept.onwards (equations g) a s b (kept.back (equations g) s a is_a) is_b)

  abbrev gets_y : Head Written
  gets_y = head.act (input (of_name (codes "y"))) (using_a (of_name (codes "y")))

  abbrev gets_pair : Tree → Head Written
  gets_pair s = head.act (input (both (of_name (codes "y")) s)) (showing (told_both s (of_name (codes "y"))))

  behind_pair : (tr : Trace) (m : List ℕ) (s x : Tree) → IsGround s → Contains tr (k_fact x ∷ []) → IsTheoryEqual (equations g) s x
      → Keeps g takers (Taken g) ToldBehind tr m (gets_pair s)
  behind_pair tr m s x ground c h σ y fits =
      let τ : Choice = chosen σ (tree_vars (both (of_name (codes "y")) s)) in
      let u : Tree = σ (named (codes "y") Msg) in
      subst (λ t. Taken g (tr ++ (k_fact y ∷ []) ∷ []) m (showing (told_both t u))) (sym (ground_stays τ s ground))
      (taken_both s u x y (behind_last x y tr c) h (subst (λ t. IsTheoryEqual (equations g) (both u t) y) (ground_stays σ s ground) fits.equal))

  taken_heads : (tr : Trace) (m : List ℕ) (w : Written) (h : Head Written) → Taken g tr m w → StartsWith takers w h → Keeps g takers (Taken g) ToldBehind tr m h
  taken_heads tr m _ h whole_taken s =
      subst (Keeps g takers (Taken g) ToldBehind tr m) (sym (form_alone takers h gets_y s))
      (λ σ x fits. taken_one (σ (named (codes "y") Msg)) x ((fits.messages (named (codes "y") Msg)).ground)
      (Contains-append_right tr ((k_fact x ∷ []) ∷ []) (k_fact x ∷ []) (first_item (k_fact x ∷ []) [])) fits.equal)
  taken_heads tr m _ h (taken_one t x i c k) s =
      subst (Keeps g takers (Taken g) ToldBehind tr m) (sym (form_alone takers h (gets_pair t) (one_use (sorted_definition taking_other) (t ∷ []) h s)))
      (behind_pair tr m t x i c k)
  taken_heads tr m _ h (taken_both t u x y i j k) s =
      subst (Keeps g takers (Taken g) ToldBehind tr m) (sym (form_alone takers h (head.act (event (told_both t u)) nil) s))
      (λ l f. (λ e. not_taken_so t u x y (subst (Behind x y) e.0 i) j k, ended_taken))
  taken_heads tr m _ h ended_taken s = subst (Keeps g takers (Taken g) ToldBehind tr m) (sym (form_alone takers h head.nil s)) tt

  taken_holds : Holds g takers (Taken g) ToldBehind
  taken_holds = record {
    more_made = λ tr m n w. taken_more_made;
    more_shown = λ tr m fs w. taken_more_shown fs;
    heads = taken_heads;
    known = λ tr t e. no_k (told_both e.1.0 e.1.1) t refl e.1.2;
  }

  pub not_own_argument : (s t : Tree) (tr : Trace) → ¬ IsFileTrace g (taking_other ∷ []) use_taken ((k_fact a ∷ []) ∷ (k_fact (both a b) ∷ []) ∷ (told_both s t ∷ []) ∷ tr)
  not_own_argument s t tr is =
      (shows_none g takers (Taken g) ToldBehind taken_holds use_taken whole_taken ((k_fact a ∷ []) ∷ (k_fact (both a b) ∷ []) ∷ (told_both s t ∷ []) ∷ tr) is).1.1.0
      (refl, (s, t, refl))

-- ---- let C = event E(y); let A(y) = C; A('a')

data Below : Trace → List ℕ → Written → Type 0 where
  whole_below : {tr : Trace} {m : List ℕ} → Below tr m use_a
  ended_below : {tr : Trace} {m : List ℕ} → Below tr m nil

stays_below : {tr us : Trace} {m n : List ℕ} {w : Written} → Below tr m w → Below us n w
stays_below whole_below = whole_below
stays_below ended_below = ended_below

module _ (normal : LeavesAreNormal) (unique : FormIsOne) (kept : EqualityIsKept) (g : Sig) where
  abbrev belows : List Definition
  belows = running (telling_y ∷ using_plain ∷ [])

  -- let A(y) = event E(y)
  abbrev told_y : Definition
  told_y = record using_plain { body = telling (of_name (codes "y")) }

  abbrev tells_a : Head Written
  tells_a = head.act (event (told a)) nil

  below_starts : (h : Head Written) → StartsWith belows use_a h → h ≡ tells_a
  below_starts h s =
      let u = use_alone belows h (codes "A") (a ∷ []) s in
      one_of_two (λ d. d.name ≡ codes "A" → StartsWith belows (instance_by d (a ∷ [])) h → h ≡ tells_a) telling_y told_y u.definition u.there
      (λ e r. absurd (other_name (codes "C") (codes "A") refl refl e)) (λ e r. form_alone belows h tells_a r) u.named u.starts

  below_heads : (tr : Trace) (m : List ℕ) (w : Written) (h : Head Written) → Below tr m w → StartsWith belows w h → Keeps g belows Below (ToldVariable unique kept g) tr m h
  below_heads tr m _ h whole_below s =
      subst (Keeps g belows Below (ToldVariable unique kept g) tr m) (sym (below_starts h s))
      (λ k f. (λ e. form_is_ground unique kept (equations g) a (of_name (codes "y")) tt (form_of_told unique kept g a (of_name (codes "y")) k f e), ended_below))
  below_heads tr m _ h ended_below s = subst (Keeps g belows Below (ToldVariable unique kept g) tr m) (sym (form_alone belows h head.nil s)) tt

  below_holds : Holds g belows Below (ToldVariable unique kept g)
  below_holds = record {
    more_made = λ tr m n w. stays_below;
    more_shown = λ tr m fs w. stays_below;
    heads = below_heads;
    known = λ tr t e. no_k (told (of_name (codes "y"))) t refl e;
  }

  pub not_open : (tr : Trace) → IsFileTrace g (telling_y ∷ using_plain ∷ []) use_a tr → ¬ Contains tr (told (of_name (codes "y")) ∷ [])
  not_open tr is m =
      let clean = shows_none g belows Below (ToldVariable unique kept g) below_holds use_a whole_below tr is in
      (is_not_shown g belows Below (ToldVariable unique kept g) [] tr (told (of_name (codes "y")) ∷ []) clean m).1 refl

-- ---- let A(x) = event E(x); in(<~x,x>); A(x)

data Sorted (g : Sig) : Trace → List ℕ → Written → Type 0 where
  whole_sorted : {tr : Trace} {m : List ℕ} → Sorted g tr m (taking (both (fresh_of (codes "x")) (fresh_of (codes "x"))) (using_a (fresh_of (codes "x"))))
  used_sorted : {tr : Trace} {m : List ℕ} (s x : Tree) → Contains tr (k_fact x ∷ []) → IsTheoryEqual (equations g) (both s s) x → Sorted g tr m (using_a s)
  ended_sorted : {tr : Trace} {m : List ℕ} → Sorted g tr m nil

sorted_more_made : {g : Sig} {tr : Trace} {m n : List ℕ} {w : Written} → Sorted g tr m w → Sorted g tr n w
sorted_more_made whole_sorted = whole_sorted
sorted_more_made (used_sorted s x c h) = used_sorted s x c h
sorted_more_made ended_sorted = ended_sorted

sorted_more_shown : {g : Sig} {tr : Trace} {m : List ℕ} {w : Written} (fs : List Fact) → Sorted g tr m w → Sorted g (tr ++ fs ∷ []) m w
sorted_more_shown fs whole_sorted = whole_sorted
sorted_more_shown {tr = tr} fs (used_sorted s x c h) = used_sorted s x (Contains-append_left tr (fs ∷ []) (k_fact x ∷ []) c) h
sorted_more_shown fs ended_sorted = ended_sorted

module _ (normal : LeavesAreNormal) (unique : FormIsOne) (kept : EqualityIsKept) (g : Sig) where
  abbrev tellers : List Definition
  tellers = running (telling_x ∷ [])

  abbrev ToldOther : Trace → List Fact → Type 0
  ToldOther tr fs = (tr ≡ (k_fact (both (fresh 1) a) ∷ []) ∷ []) × ((t : Tree) × (fs ≡ told t ∷ []))

  abbrev gets_sorted : Head Written
  gets_sorted = head.act (input (both (fresh_of (codes "x")) (fresh_of (codes "x")))) (using_a (fresh_of (codes "x")))

  sorted_heads : (tr : Trace) (m : List ℕ) (w : Written) (h : Head Written) → Sorted g tr m w → StartsWith tellers w h → Keeps g tellers (Sorted g) ToldOther tr m h
  sorted_heads tr m _ h whole_sorted s =
      subst (Keeps g tellers (Sorted g) ToldOther tr m) (sym (form_alone tellers h gets_sorted s))
      (λ σ x fits. used_sorted (σ (named (codes "x") Fresh)) x (Contains-append_right tr ((k_fact x ∷ []) ∷ []) (k_fact x ∷ []) (first_item (k_fact x ∷ []) [])) fits.equal)
  sorted_heads tr m _ h (used_sorted t x c i) s =
      subst (Keeps g tellers (Sorted g) ToldOther tr m) (sym (form_alone tellers h (head.act (event (told t)) nil) (one_use (sorted_definition telling_x) (t ∷ []) h s)))
      (λ k f. (λ e. no_twin normal unique kept g t x (subst (λ us. Contains us (k_fact x ∷ [])) e.0 c) i, ended_sorted))
  sorted_heads tr m _ h ended_sorted s = subst (Keeps g tellers (Sorted g) ToldOther tr m) (sym (form_alone tellers h head.nil s)) tt

  sorted_holds : Holds g tellers (Sorted g) ToldOther
  sorted_holds = record {
    more_made = λ tr m n w. sorted_more_made;
    more_shown = λ tr m fs w. sorted_more_shown fs;
    heads = sorted_heads;
    known = λ tr t e. no_k (told e.1.0) t refl e.1.1;
  }

  pub not_other_sort : (t : Tree) (tr : Trace) → ¬ IsFileTrace g (telling_x ∷ []) use_twin ((k_fact (both (fresh 1) a) ∷ []) ∷ (told t ∷ []) ∷ tr)
  not_other_sort t tr is =
      (shows_none g tellers (Sorted g) ToldOther sorted_holds (taking (both (fresh_of (codes "x")) (fresh_of (codes "x"))) (using_a (fresh_of (codes "x")))) whole_sorted
      ((k_fact (both (fresh 1) a) ∷ []) ∷ (told t ∷ []) ∷ tr) is).1.0 (refl, (t, refl))

-- What an embedded rule does.
use denote.Ref.{Bor}
use Rattle.std.proofs.Common.{◌≡◌, ◌+◌, ℕ, Bool, true, false, ◌||◌, List, [], ◌∷◌, ◌++◌, zero, suc, length, Option, Some, None, map, refl, sym, ap, subst, ◌∙◌, append_assoc, if◌then◌else◌, arith}
use Rattle.std.specs.Prelude.{All, Contains, slice_get, slice_set}
use Rattle.std.specs.List.{AllZip, range_with_len}
use Rattle.std.specs.Str.{bytes_eq}
use Rattle.std.proofs.lemmas.List.{map-append, append-nil}
use Rattle.std.proofs.lemmas.List.Elements.{All-nil, All-cons, All-head, All-tail, Contains-append_left}
use Rattle.std.proofs.lemmas.Slice.Eq.{bytes_eq-Decides}
use Rattle.std.proofs.lemmas.Grind.{flat_map-append}
use Rattle.sap_calc.specs.ThreadHeads.{HasHead}
use Rattle.sap_facts.specs.Cited.{cited_at}
use Rattle.sap_facts.specs.Facts.{fact_at, standing}
use Rattle.sap_called.specs.NamedTerms.{named_facts}
use Rattle.sap_grammar.specs.FactText.{facts_text, arrow_text}
use Rattle.sap_lines.specs.Answers.{MatchesExactly}
use Rattle.sap_lines.specs.Lines as lines
use Rattle.sap_lines.specs.Lines.{IsProcessLine, left_open}
use Rattle.sap_lines.specs.Places.{form_proc}
use Rattle.sap_lines.specs.declared.form.Form.{Form}
use Rattle.sap_process.specs.Action as action
use Rattle.sap_process.specs.Configuration.{Config}
use Rattle.sap_process.specs.Heads.{facts_terms}
use Rattle.sap_process.specs.Proc.{act}
use Rattle.sap_process.specs.Sites.{var_names}
use Rattle.sap_rewrite.specs.Match.{HaveOneSort, Turns, bound_vars}
use Rattle.sap_rewrite.specs.Pattern.{IsPattern, HeadsDestructor}
use Rattle.sap_runs.specs.declared.process_step.PStep.TheVariants as line
use Rattle.sap_terms.specs.Choice.{Choice, instance, instances}
use Rattle.sap_terms.specs.Equal.{IsTheoryEqual}
use Rattle.sap_terms.specs.Equations.{equations, IsDestructor}
use Rattle.sap_terms.specs.Ground.{IsGround}
use Rattle.sap_terms.specs.Message.{IsMessageChoice}
use Rattle.sap_terms.specs.Modulo.{instance_facts, AreEqualFacts, AreFormsOfFacts}
use Rattle.sap_terms.specs.Normal.{IsNormal, IsNoLeftSide}
use Rattle.sap_terms.specs.Piles.{Pile, Takes, nothing, one, used, adds}
use Rattle.sap_terms.specs.Signature.{Sig}
use Rattle.sap_terms.specs.Subterms.{EachSubterm, EachSubtermWithin}
use Rattle.sap_terms.specs.Tree.{Tree, more, apply, trees_of}
use Rattle.sap_terms.specs.Variables.{tree_vars, trees_vars, facts_vars, is_known, new_vars}
use Rattle.sap_terms.specs.declared.binding.Binding.{Binding}
use Rattle.sap_terms.specs.declared.fact.Fact.{Fact}
use Rattle.sap_terms.specs.declared.var.Var.{Var}
use Rattle.sap_tell.specs.Told as told
use Rattle.sap_tell.specs.Told.{IsDoing, bound_texts}
use Rattle.sap_tell.specs.ToldText.{bound_text}
use Rattle.sap_teller.specs.code.Doings.{action_of, outcomes_of, binding_texts}
use Rattle.sap_teller.specs.code.Heads.{IsFitted, IsUsedAt, together}
use Rattle.sap_teller.specs.declared.doing.Doing.{Doing}
use Rattle.sap_teller.specs.declared.doing.Doing.TheVariants as does
use Rattle.sap_teller.specs.code.LawsBelow.{Laws}
use Rattle.sap_teller.proofs.Does.{DoesHere, bound_as, agree_texts, turned}
use Rattle.sap_teller.proofs.Inverted.{rule_form}

-- first occurrences, where the names of some before are known
known_append : (ks ms : List (List ℕ)) (n : List ℕ) → is_known (ks ++ ms) n ≡ (is_known ks n || is_known ms n)
known_append [] ms n = refl
known_append (k ∷ ks) ms n = at (bytes_eq k n) (known_append ks ms n) where
  at : (b : Bool) → is_known (ks ++ ms) n ≡ (is_known ks n || is_known ms n) → (b || is_known (ks ++ ms) n) ≡ ((b || is_known ks n) || is_known ms n)
  at true h = refl
  at false h = h

named_alike : (ks : List (List ℕ)) (m n : List ℕ) → bytes_eq m n ≡ true → is_known ks m ≡ true → is_known ks n ≡ true
named_alike ks m n e h = subst (λ (x : List ℕ). is_known ks x ≡ true) ((bytes_eq-Decides m n).0 e) h

new_alike : (ks ms : List (List ℕ)) (vs : List Var) → ((n : List ℕ) → is_known ks n ≡ is_known ms n) → new_vars ks vs ≡ new_vars ms vs
new_alike ks ms [] h = refl
new_alike ks ms (v ∷ vs) h =
    let later = new_alike (ks ++ v.name ∷ []) (ms ++ v.name ∷ []) vs (λ n. known_append ks (v.name ∷ []) n ∙ ap (λ b. b || is_known (v.name ∷ []) n) (h n) ∙ sym (known_append ms (v.name ∷ []) n)) in
    let same = new_alike ks ms vs h in
    λ i. if h v.name i then same i else v ∷ later i

new_append : (ks : List (List ℕ)) (vs ws : List Var) → new_vars ks (vs ++ ws) ≡ new_vars ks vs ++ new_vars (ks ++ var_names (new_vars ks vs)) ws
new_append ks [] ws = sym (ap (λ ns. new_vars ns ws) (append-nil ks))
new_append ks (v ∷ vs) ws = at (is_known ks v.name) (new_append ks vs ws) (new_append (ks ++ v.name ∷ []) vs ws) where
  at : (b : Bool) → new_vars ks (vs ++ ws) ≡ new_vars ks vs ++ new_vars (ks ++ var_names (new_vars ks vs)) ws
      → new_vars (ks ++ v.name ∷ []) (vs ++ ws) ≡ new_vars (ks ++ v.name ∷ []) vs ++ new_vars ((ks ++ v.name ∷ []) ++ var_names (new_vars (ks ++ v.name ∷ []) vs)) ws
      → (if b then new_vars ks (vs ++ ws) else v ∷ new_vars (ks ++ v.name ∷ []) (vs ++ ws))
      ≡ (if b then new_vars ks vs else v ∷ new_vars (ks ++ v.name ∷ []) vs) ++ new_vars (ks ++ var_names (if b then new_vars ks vs else v ∷ new_vars (ks ++ v.name ∷ []) vs)) ws
  at true same later = same
  at false same later =
      let more_named = ks ++ v.name ∷ [] in
      ap (λ us. v ∷ us) (later ∙ ap (λ ns. new_vars more_named vs ++ new_vars ns ws) (append_assoc ks (v.name ∷ []) (var_names (new_vars more_named vs))))

known_new : (ks : List (List ℕ)) (vs : List Var) (n : List ℕ) → is_known (ks ++ var_names (new_vars ks vs)) n ≡ is_known (ks ++ var_names vs) n
known_new ks [] n = refl
known_new ks (v ∷ vs) n = at (is_known ks v.name) refl (known_new ks vs n) (known_new (ks ++ v.name ∷ []) vs n) where
  either : (b : Bool) → bytes_eq v.name n ≡ b → is_known ks v.name ≡ true → is_known (ks ++ var_names vs) n ≡ is_known (ks ++ (v.name ∷ var_names vs)) n
  either true e h =
      let k = named_alike ks v.name n e h in
      known_append ks (var_names vs) n ∙ ap (λ b. b || is_known (var_names vs) n) k ∙ sym (known_append ks (v.name ∷ var_names vs) n ∙ ap (λ b. b || is_known (v.name ∷ var_names vs) n) k)
  either false e h = known_append ks (var_names vs) n ∙ sym (known_append ks (v.name ∷ var_names vs) n ∙ ap (λ b. is_known ks n || (b || is_known (var_names vs) n)) e)

  at : (b : Bool) → is_known ks v.name ≡ b → is_known (ks ++ var_names (new_vars ks vs)) n ≡ is_known (ks ++ var_names vs) n
      → is_known ((ks ++ v.name ∷ []) ++ var_names (new_vars (ks ++ v.name ∷ []) vs)) n ≡ is_known ((ks ++ v.name ∷ []) ++ var_names vs) n → is_known (ks ++ var_names (if b then new_vars ks vs else v ∷ new_vars (ks ++ v.name ∷ []) vs)) n ≡ is_known (ks ++ (v.name ∷ var_names vs)) n
  at true h same later = same ∙ either (bytes_eq v.name n) refl h
  at false h same later =
      let named = ks ++ v.name ∷ [] in
      ap (λ ns. is_known ns n) (sym (append_assoc ks (v.name ∷ []) (var_names (new_vars named vs)))) ∙ later ∙ ap (λ ns. is_known ns n) (append_assoc ks (v.name ∷ []) (var_names vs))

pub new_behind : (vs ws : List Var) → new_vars [] (vs ++ ws) ≡ new_vars [] vs ++ new_vars (var_names vs) ws
new_behind vs ws = new_append [] vs ws ∙ ap (λ us. new_vars [] vs ++ us) (new_alike (var_names (new_vars [] vs)) (var_names vs) ws (known_new [] vs))

facts_vars_append : (fs hs : List Fact) → facts_vars (fs ++ hs) ≡ facts_vars fs ++ facts_vars hs
facts_vars_append fs hs = flat_map-append (λ (f : Fact). trees_vars (trees_of f.args)) fs hs

trees_vars_append : (ts us : List Tree) → trees_vars (trees_of (ts ++ us)) ≡ trees_vars (trees_of ts) ++ trees_vars (trees_of us)
trees_vars_append [] us = refl
trees_vars_append (t ∷ ts) us = ap (λ vs. tree_vars t ++ vs) (trees_vars_append ts us) ∙ sym (append_assoc (tree_vars t) (trees_vars (trees_of ts)) (trees_vars (trees_of us)))

pub together_vars : (fs : List Fact) → tree_vars (together fs) ≡ facts_vars fs
together_vars [] = refl
together_vars (f ∷ fs) = trees_vars_append f.args (facts_terms fs) ∙ ap (λ vs. trees_vars (trees_of f.args) ++ vs) (together_vars fs)

-- what is so of each argument is so of each subterm, and the other way round
within_of : (P : Tree → Type 0) (ts : List Tree) → All (EachSubterm P) ts → EachSubtermWithin P (trees_of ts)
within_of P [] h = tt
within_of P (t ∷ ts) h = (All-head (EachSubterm P) t ts h, within_of P ts (All-tail (EachSubterm P) t ts h))

all_append : {X : Type 0} (P : X → Type 0) (xs ys : List X) → All P xs → All P ys → All P (xs ++ ys)
all_append P [] ys h k = k
all_append P (x ∷ xs) ys h k = All-cons P x (xs ++ ys) (All-head P x xs h) (all_append P xs ys (All-tail P x xs h) k)

args_all : (P : Tree → Type 0) (fs : List Fact) → All (λ (f : Fact). All P f.args) fs → All P (facts_terms fs)
args_all P [] h = All-nil P
args_all P (f ∷ fs) h = all_append P f.args (facts_terms fs) (All-head (λ (x : Fact). All P x.args) f fs h) (args_all P fs (All-tail (λ (x : Fact). All P x.args) f fs h))

instances_all : (σ : Choice) (ts : List Tree) → instances σ (trees_of ts) ≡ trees_of (map (instance σ) ts)
instances_all σ [] = refl
instances_all σ (t ∷ ts) = ap (more (instance σ t)) (instances_all σ ts)

instances_args : (σ : Choice) (fs : List Fact) → map (instance σ) (facts_terms fs) ≡ facts_terms (instance_facts σ fs)
instances_args σ [] = refl
instances_args σ (f ∷ fs) = map-append (instance σ) f.args (facts_terms fs) ∙ ap (λ ts. map (instance σ) f.args ++ ts) (instances_args σ fs)

together_instance : (σ : Choice) (fs : List Fact) → instance σ (together fs) ≡ together (instance_facts σ fs)
together_instance σ fs = ap (apply []) (instances_all σ (facts_terms fs) ∙ ap trees_of (instances_args σ fs))

zip_append : {X Y : Type 0} (R : X → Y → Type 0) (xs us : List X) (ys vs : List Y) → AllZip R xs ys → AllZip R us vs → AllZip R (xs ++ us) (ys ++ vs)
zip_append R [] us [] vs h k = k
zip_append R [] us (y ∷ ys) vs h k = absurd h
zip_append R (x ∷ xs) us [] vs h k = absurd h
zip_append R (x ∷ xs) us (y ∷ ys) vs h k = (h.0, zip_append R xs us ys vs h.1 k)

args_zip : (g : Sig) (fs hs : List Fact) → AreEqualFacts (equations g) fs hs → AllZip (IsTheoryEqual (equations g)) (facts_terms fs) (facts_terms hs)
args_zip g [] [] h = tt
args_zip g [] (y ∷ hs) h = absurd h
args_zip g (x ∷ fs) [] h = absurd h
args_zip g (x ∷ fs) (y ∷ hs) h = zip_append (IsTheoryEqual (equations g)) x.args (facts_terms fs) y.args (facts_terms hs) h.0.args (args_zip g fs hs h.1)

pub forms_length : (g : Sig) (fs hs : List Fact) → AreFormsOfFacts (equations g) fs hs → length hs ≡ length fs
forms_length g [] [] h = refl
forms_length g [] (y ∷ hs) h = absurd h
forms_length g (x ∷ fs) [] h = absurd h
forms_length g (x ∷ fs) (y ∷ hs) h = ap suc (forms_length g fs hs h.1)

pub length_instances : (σ : Choice) (fs : List Fact) → length (instance_facts σ fs) ≡ length fs
length_instances σ [] = refl
length_instances σ (f ∷ fs) = ap suc (length_instances σ fs)

-- the facts that are taken, by their numbers
set_kept : {X : Type 0} (xs : List (Option X)) (k j : ℕ) (x : X) → slice_get (slice_set xs k None) j ≡ Some (Some x) → slice_get xs j ≡ Some (Some x)
set_kept [] k j x e = e
set_kept (y ∷ ys) zero zero x e = cc
set_kept (y ∷ ys) zero (suc j) x e = e
set_kept (y ∷ ys) (suc k) zero x e = e
set_kept (y ∷ ys) (suc k) (suc j) x e = set_kept ys k j x e

used_kept : (facts : Pile) (k : ℕ) (f x : Fact) (j : ℕ) → slice_get (used facts k f) j ≡ Some (Some x) → slice_get facts j ≡ Some (Some x)
used_kept facts k f x j e = at f.persistent e where
  at : (b : Bool) → slice_get (if b then facts else slice_set facts k None) j ≡ Some (Some x) → slice_get facts j ≡ Some (Some x)
  at true e = e
  at false e = set_kept facts k j x e

taken_all : (P : Fact → Type 0) {facts rest : Pile} {ks : List ℕ} {fs : List Fact} → ((j : ℕ) (f : Fact) → slice_get facts j ≡ Some (Some f) → P f) → Takes facts ks fs rest → All P fs
taken_all P h nothing = All-nil P
taken_all P {facts = facts} h (one {k = k} {f = f} {fs = fs} a t) = All-cons P f fs (h k f a) (taken_all P (λ j x e. h j x (used_kept facts k f x j e)) t)

cons_found : (pile : Pile) (k : ℕ) (ks : List ℕ) (f : Fact) → fact_at pile k ≡ Some f → cited_at pile (k ∷ ks) ≡ f ∷ cited_at pile ks
cons_found pile k ks f e = rw e refl

taken_cited : (pile : Pile) {facts rest : Pile} {ks : List ℕ} {fs : List Fact} → ((j : ℕ) (x : Fact) → slice_get facts j ≡ Some (Some x) → slice_get pile j ≡ Some (Some x)) → Takes facts ks fs rest → fs ≡ cited_at pile ks
taken_cited pile h nothing = refl
taken_cited pile {facts = facts} h (one {k = k} {ks = ks} {f = f} {fs = fs} a t) =
    ap (λ xs. f ∷ xs) (taken_cited pile (λ j x e. h j x (used_kept facts k f x j e)) t) ∙ sym (cons_found pile k ks f (ap standing (h k f a)))

length_set : {X : Type 0} (xs : List X) (k : ℕ) (x : X) → length (slice_set xs k x) ≡ length xs
length_set [] k x = refl
length_set (y ∷ ys) zero x = refl
length_set (y ∷ ys) (suc k) x = ap suc (length_set ys k x)

used_length : (facts : Pile) (k : ℕ) (f : Fact) → length (used facts k f) ≡ length facts
used_length facts k f = at f.persistent where
  at : (b : Bool) → length (if b then facts else slice_set facts k None) ≡ length facts
  at true = refl
  at false = length_set facts k None

pub left_length : {facts rest : Pile} {ks : List ℕ} {fs : List Fact} → Takes facts ks fs rest → length rest ≡ length facts
left_length nothing = refl
left_length {facts = facts} (one {k = k} {f = f} a t) = left_length t ∙ used_length facts k f

-- the facts that are added, by theirs
got_at_end : (pile : Pile) (x : Fact) (later : Pile) → slice_get (pile ++ (Some x ∷ later)) (length pile) ≡ Some (Some x)
got_at_end [] x later = refl
got_at_end (o ∷ os) x later = got_at_end os x later

length_push : {X : Type 0} (xs : List X) (x : X) → length (xs ++ x ∷ []) ≡ length xs + 1
length_push [] x = refl
length_push (y ∷ ys) x = ap suc (length_push ys x) ∙ omega arith

pub added_cited : (pile : Pile) (fs : List Fact) → cited_at (adds pile fs) (range_with_len (length pile) (length fs)) ≡ fs
added_cited pile [] = refl
added_cited pile (f ∷ fs) =
    let whole = adds pile (f ∷ fs) in
    let split : adds (pile ++ Some f ∷ []) fs ≡ whole = append_assoc pile (Some f ∷ []) (map (λ (x : Fact). Some x) fs) in
    cons_found whole (length pile) (range_with_len (length pile + 1) (length fs)) f (ap standing (got_at_end pile f (map (λ (x : Fact). Some x) fs)))
    ∙ ap (λ xs. f ∷ xs) ((λ i. cited_at (sym split i) (range_with_len (sym (length_push pile (Some f)) i) (length fs))) ∙ added_cited (pile ++ Some f ∷ []) fs)

module _ (laws : Laws) (g : Sig) where
  nameless : IsDestructor (equations g) [] → ⊥
  nameless d = let never = (laws.heads g []).1 d in cc

  together_pattern : (fs : List Fact) → All (IsPattern (equations g)) (facts_terms fs) → IsPattern (equations g) (together fs)
  together_pattern fs h =
      let P : Tree → Type 0 = λ t. HeadsDestructor (equations g) t → IsGround t × IsNormal (equations g) t in
      ((λ d. absurd (nameless d)), within_of P (facts_terms fs) h)

  together_normal : (fs : List Fact) → All (λ (f : Fact). All (IsNormal (equations g)) f.args) fs → IsNormal (equations g) (together fs)
  together_normal fs h =
      let P : Tree → Type 0 = IsNoLeftSide (equations g) in
      laws.leaves.of_symbol (equations g) [] (trees_of (facts_terms fs)) nameless (within_of P (facts_terms fs) (args_all (IsNormal (equations g)) fs h))

  rule_turned : (σ : Choice) (l left : List Fact) → IsMessageChoice g σ → All (IsPattern (equations g)) (facts_terms l) → All (λ (f : Fact). All (IsNormal (equations g)) f.args) left → AreEqualFacts (equations g) (instance_facts σ l) left
      → Turns (together l) (together left) [] σ
  rule_turned σ l left m p n e =
      let same : IsTheoryEqual (equations g) (together (instance_facts σ l)) (together left) = laws.kept.under_symbols (equations g) [] (facts_terms (instance_facts σ l)) (facts_terms left) (args_zip g (instance_facts σ l) left e) in
      turned laws g σ (together l) (together left) m (together_pattern l p) (together_normal left n) (subst (λ (t : Tree). IsTheoryEqual (equations g) t (together left)) (sym (together_instance σ l)) same)

  rule_sorts : (l e r : List Fact) → HaveOneSort (facts_vars (l ++ (e ++ r))) → HaveOneSort (tree_vars (together l))
  rule_sorts l e r sorts v w a b =
      let there : (u : Var) → Contains (tree_vars (together l)) u → Contains (facts_vars (l ++ (e ++ r))) u = λ u k. subst (λ (vs : List Var). Contains vs u) (sym (facts_vars_append l (e ++ r))) (Contains-append_left (facts_vars l) (facts_vars (e ++ r)) u (subst (λ (vs : List Var). Contains vs u) (together_vars l) k)) in
      sorts v w (there v a) (there w b)

pub does_embeds : (laws : Laws) {g : Sig} {c d : Config} {es fs : List Tree} → MatchesExactly g c es → (t n : ℕ) (ks : List ℕ) (b : Bor (List Binding)) (f : Form) (x : Doing) → n ≡ length c.facts → HasHead c t f
    → IsUsedAt (cited_at c.facts ks) d.facts n b f x → DoesHere g c es d fs (line.Embedded t ks b.now) x
does_embeds laws {g = g} {c = c} {es = es} exact t n ks b f x count h u ds inner label (lines.embeds {l = l} {e = e} {r = r} {rest = rest} {p = p} _ _ _ σ left acts right run messages vars agrees same takes forms_e forms_r w) =
    let process : form_proc f h.first h.second ≡ act (action.embedded l e r) p = cc (h.runs, run) in
    let i = rule_form f l e r p h.first h.second process in
    let cited : left ≡ cited_at c.facts ks = taken_cited c.facts (λ j y k. k) takes in
    let many : length r ≡ length right = sym (forms_length g (instance_facts σ r) right forms_r ∙ length_instances σ r) in
    let start : n ≡ length rest = count ∙ sym (left_length takes) in
    let added : cited_at (adds rest right) (range_with_len n (length r)) ≡ right = (λ i. cited_at (adds rest right) (range_with_len (start i) (many i))) ∙ added_cited rest right in
    let v = u l e r i in
    let K : List Binding → Doing = λ a. does.Uses v.0 right a b in
    let fitted : IsFitted (together l) (together left) K x =
    subst (λ (ys : List Fact). IsFitted (together l) (together left) (λ a. does.Uses v.0 ys a b) x) added
    (subst (λ (ys : List Fact). IsFitted (together l) (together ys) (λ a. does.Uses v.0 (cited_at (adds rest right) (range_with_len n (length r))) a b) x) (sym cited) v.2) in
    let lent : v.0.now ≡ left = v.1 ∙ sym cited in
    let there = rule_turned laws g σ l left messages (exact.patterns_are t (act (action.embedded l e r) p) run) (taken_all (λ (y : Fact). All (IsNormal (equations g)) y.args) exact.facts takes) same in
    let o = bound_as laws σ (together l) (together left) K x (rule_sorts laws g l e r (exact.sorts t l e r p run)) there fitted in
    let all_vars : new_vars [] (facts_vars (l ++ (e ++ r))) ≡ bound_vars o.bindings ++ bound_vars b.now =
    ap (new_vars []) (facts_vars_append l (e ++ r)) ∙ new_behind (facts_vars l) (facts_vars (e ++ r)) ∙ (λ i. (ap (new_vars []) (sym (together_vars l)) ∙ sym o.vars) i ++ sym vars i) in
    let text = λ (v : Var). bound_text ds (v, σ v) in
    let texts : bound_texts ds σ (facts_vars (l ++ (e ++ r))) ≡ binding_texts ds o.bindings ++ binding_texts ds b.now =
    ap (map text) all_vars ∙ map-append text (bound_vars o.bindings) (bound_vars b.now) ∙ (λ i. agree_texts laws ds o.bindings σ o.agrees i ++ agree_texts laws ds b.now σ agrees i) in
    subst (λ (z : Doing). IsDoing g ds c es (line.Embedded t ks b.now) [] label es (action_of ds label z) (outcomes_of ds z)) (sym o.is)
    (subst (λ (ys : List Fact). IsDoing g ds c es (line.Embedded t ks b.now) [] label es (facts_text (named_facts ds ys) ++ (arrow_text (named_facts ds label) ++ facts_text (named_facts ds right))) (binding_texts ds o.bindings ++ binding_texts ds b.now)) (sym lent)
    (subst (λ (z : List (List ℕ)). IsDoing g ds c es (line.Embedded t ks b.now) [] label es (facts_text (named_facts ds left) ++ (arrow_text (named_facts ds label) ++ facts_text (named_facts ds right))) z) texts (told.embeds t ks b.now σ left acts right run messages agrees same takes forms_e forms_r)))

-- The rules of a sound process over the signature can be run.
use Rattle.std.proofs.Common.{◌≡◌, inl, inr, ℕ, List, [], ◌∷◌, ◌++◌, Some, Bool, true, false, ◌||◌, map, refl, sym, ap, subst, ◌∙◌}
use Rattle.std.specs.List.{list_any}
use Rattle.std.specs.Prelude.{All, codes}
use Rattle.std.specs.Str.{bytes_eq}
use Rattle.sap_formula.specs.Truth.{EachIn}
use Rattle.sap_terms.specs.AdversaryFacts.{in_fact, out_fact}
use Rattle.sap_terms.specs.Equations.{app2, pair_name}
use Rattle.sap_terms.specs.Message.{IsOver, AreOver}
use Rattle.sap_terms.specs.Reserved.{is_reserved}
use Rattle.sap_terms.specs.Signature.{Sig, arity_of}
use Rattle.sap_terms.specs.Tree.{Tree, variable, public, fresh, apply, Trees, none, more, trees_of}
use Rattle.sap_terms.specs.Variables.{facts_vars, tree_vars, trees_vars}
use Rattle.sap_terms.specs.declared.fact.Fact.{Fact}
use Rattle.sap_terms.specs.declared.var.Var.{Var}
use Rattle.sap_process.specs.Scopes.{lock_var, scope_behind, with_new}
use Rattle.sap_place.specs.StateFacts.{tag, copies_fact, waits_fact}
use Rattle.sap_process.specs.Action as action
use Rattle.sap_process.specs.Action.{Action}
use Rattle.sap_process.specs.Proc as whole
use Rattle.sap_process.specs.Proc.{Proc, act}
use Rattle.sap_process.specs.Sites.{fresh_var, message_var}
use Rattle.sap_restrict.specs.ReservedFacts.{event_fact}
use Rattle.sap_rule.specs.Variables.{rule_vars}
use Rattle.sap_rule.specs.WellMade.{IsKnowledge, IsLeftFact, IsRightFact, IsActFact, IsWellMade}
use Rattle.sap_rule.specs.declared.rule.Rule.{Rule}
use Rattle.sap_templates.specs.ChannelFacts.{fresh_fact, msg_fact, ack_fact}
use Rattle.sap_translate.specs.Members.{Member}
use Rattle.sap_templates.specs.Places.{ScopedPlace, scoped_place_at}
use Rattle.sap_process.specs.Places.{place}
use Rattle.sap_translate.specs.Scoped.{AllWithin, AreUnreserved, EachWithin, FactsWithin, IsFree, Within}
use Rattle.sap_translate.specs.Sound.{SoundAt, IsSoundAction}
use Rattle.sap_templates.specs.Templates.{state, embedded_acts, first_of, second_of, init_rule, action_rules, own_rules, place_rules, rules_of}
use Rattle.sap_translate.specs.relation.Spelled.{TermsOver, FactsOver, IsActionOver, IsProcessOver}
use Rattle.sap_translate.proofs.Lists.FactLists.{within_left, within_right}
use Rattle.sap_translate.proofs.Shared.Lookups.{member_cases, in_left, in_right, only_member, member_left, member_last}
use Rattle.sap_translate.proofs.Shared.Facts.{not_reserved, same_name_self}
use Rattle.sap_translate.proofs.Premises.OneSort.{OneSort, one_sort_more, one_sort_behind}
use Rattle.sap_translate.proofs.Premises.Sound.{none_in}
use Rattle.sap_translate.proofs.Premises.Spelled.{vars_over, sent_over}
use Rattle.sap_translate.proofs.Terms.Derive.{member, each_of_members}
use Rattle.sap_translate.proofs.Terms.Substitution.{within_more}

pub each_at : {A : Type 0} (P : A → Type 0) (xs : List A) → EachIn P xs → (x : A) → Member x xs → P x
each_at P [] h x m = elim m [ ]
each_at P (y ∷ xs) h x m = at x m h.0 (each_at P xs h.1 x)
  where
    at : (z : _) → Member z (y ∷ xs) → P y → (Member z xs → P z) → P z
    at z Member.here one rest = one
    at z (Member.later k) one rest = rest k

pub each_both : {A : Type 0} (P : A → Type 0) (xs ys : List A) → EachIn P xs → EachIn P ys → EachIn P (xs ++ ys)
each_both P [] ys h k = k
each_both P (x ∷ xs) ys h k = (h.0, each_both P xs ys h.1 k)

-- the names through which rules and the adversary deal with each other

abbrev dealings : List (List ℕ)
dealings = codes "K" ∷ codes "KU" ∷ codes "KD" ∷ codes "Fr" ∷ codes "In" ∷ codes "Out" ∷ []

abbrev is_dealing : List ℕ → Bool
is_dealing n = list_any (λ (word : List ℕ). bytes_eq n word) dealings

apart : (n word : List ℕ) → bytes_eq n word ≡ false → n ≡ word → ⊥
apart n word h e = let z : true ≡ false = sym (same_name_self n) ∙ ap (bytes_eq n) e ∙ h in cc

isnt : (n word : List ℕ) → is_dealing n ≡ false → Member word dealings → n ≡ word → ⊥
isnt n word h m = apart n word (none_in (λ (w : List ℕ). bytes_eq n w) dealings word h m)

isnt_knowledge : (n : List ℕ) → is_dealing n ≡ false → IsKnowledge n → ⊥
isnt_knowledge n h (inl e) = isnt n (codes "K") h Member.here e
isnt_knowledge n h (inr (inl e)) = isnt n (codes "KU") h (Member.later Member.here) e
isnt_knowledge n h (inr (inr e)) = isnt n (codes "KD") h (Member.later (Member.later Member.here)) e

isnt_fr : (n : List ℕ) → is_dealing n ≡ false → n ≡ codes "Fr" → ⊥
isnt_fr n h = isnt n (codes "Fr") h (Member.later (Member.later (Member.later Member.here)))

isnt_in : (n : List ℕ) → is_dealing n ≡ false → n ≡ codes "In" → ⊥
isnt_in n h = isnt n (codes "In") h (Member.later (Member.later (Member.later (Member.later Member.here))))

isnt_out : (n : List ℕ) → is_dealing n ≡ false → n ≡ codes "Out" → ⊥
isnt_out n h = isnt n (codes "Out") h (Member.later (Member.later (Member.later (Member.later (Member.later Member.here)))))

neither : (a b : Bool) → a ≡ false → b ≡ false → (a || b) ≡ false
neither true b h k = absurd (let z : true ≡ false = h in cc)
neither false b h k = k

user_name : (n : List ℕ) → is_reserved n ≡ false → is_dealing n ≡ false
user_name n h =
    neither (bytes_eq n (codes "K")) _ (not_reserved n (codes "K") h refl)
    (neither (bytes_eq n (codes "KU")) _ (not_reserved n (codes "KU") h refl)
    (neither (bytes_eq n (codes "KD")) _ (not_reserved n (codes "KD") h refl)
    (neither (bytes_eq n (codes "Fr")) _ (not_reserved n (codes "Fr") h refl)
    (neither (bytes_eq n (codes "In")) _ (not_reserved n (codes "In") h refl)
    (neither (bytes_eq n (codes "Out")) false (not_reserved n (codes "Out") h refl) refl)))))

-- what is asked of a fact on each side, where these variables are in scope

abbrev LeftFine : Sig → List Var → Fact → Type 0
LeftFine g w f = IsLeftFact f × TermsOver g f.args × AllWithin w f.args

abbrev ActFine : Sig → List Var → Fact → Type 0
ActFine g w f = IsActFact f × TermsOver g f.args × AllWithin w f.args

abbrev RightFine : Sig → List Var → Fact → Type 0
RightFine g w f = IsRightFact f × TermsOver g f.args × AllWithin w f.args

left_fine : (g : Sig) (w : List Var) (f : Fact) → is_dealing f.name ≡ false → TermsOver g f.args → AllWithin w f.args → LeftFine g w f
left_fine g w f h o i = (
  record {
    no_knowledge = isnt_knowledge f.name h;
    no_out = isnt_out f.name h;
    fr = λ e. absurd (isnt_fr f.name h e);
    in_ = λ e. absurd (isnt_in f.name h e);
  },
  o,
  i,
)

act_fine : (g : Sig) (w : List Var) (f : Fact) → is_dealing f.name ≡ false → TermsOver g f.args → AllWithin w f.args → ActFine g w f
act_fine g w f h o i = (
  record { no_knowledge = isnt_knowledge f.name h; no_fr = isnt_fr f.name h; no_in = isnt_in f.name h; no_out = isnt_out f.name h },
  o,
  i,
)

right_fine : (g : Sig) (w : List Var) (f : Fact) → is_dealing f.name ≡ false → TermsOver g f.args → AllWithin w f.args → RightFine g w f
right_fine g w f h o i = (
  record {
    no_knowledge = isnt_knowledge f.name h;
    no_fr = isnt_fr f.name h;
    no_in = isnt_in f.name h;
    out = λ e. absurd (isnt_out f.name h e);
  },
  o,
  i,
)

not_known : (n : List ℕ) → bytes_eq n (codes "K") ≡ false → bytes_eq n (codes "KU") ≡ false → bytes_eq n (codes "KD") ≡ false → IsKnowledge n → ⊥
not_known n a b c (inl e) = apart n (codes "K") a e
not_known n a b c (inr (inl e)) = apart n (codes "KU") b e
not_known n a b c (inr (inr e)) = apart n (codes "KD") c e

fresh_fine : (g : Sig) (w : List Var) (x : Var) → Member x w → LeftFine g w (fresh_fact (variable x))
fresh_fine g w x m = (
  record {
    no_knowledge = not_known (codes "Fr") refl refl refl;
    no_out = apart (codes "Fr") (codes "Out") refl;
    fr = λ e. record { linear = refl; one = refl };
    in_ = λ e. record { linear = refl; one = refl };
  },
  (tt, tt),
  (m, tt),
)

in_fine : (g : Sig) (w : List Var) (t : Tree) → IsOver g t → Within w t → LeftFine g w (in_fact t)
in_fine g w t o i = (
  record {
    no_knowledge = not_known (codes "In") refl refl refl;
    no_out = apart (codes "In") (codes "Out") refl;
    fr = λ e. record { linear = refl; one = refl };
    in_ = λ e. record { linear = refl; one = refl };
  },
  (o, tt),
  (i, tt),
)

out_fine : (g : Sig) (w : List Var) (t : Tree) → IsOver g t → Within w t → RightFine g w (out_fact t)
out_fine g w t o i = (
  record {
    no_knowledge = not_known (codes "Out") refl refl refl;
    no_fr = apart (codes "Out") (codes "Fr") refl;
    no_in = apart (codes "Out") (codes "In") refl;
    out = λ e. record { linear = refl; one = refl };
  },
  (o, tt),
  (i, tt),
)

-- the variables in scope as arguments

abbrev pub Inside : List Var → List Var → Type 0
Inside v w = (x : Var) → Member x v → Member x w

pub vars_within : (v w : List Var) → Inside v w → AllWithin w (map variable v)
vars_within [] w h = tt
vars_within (x ∷ v) w h = (h x Member.here, vars_within v w (λ y m. h y (Member.later m)))

pub tagged_within : (v w : List Var) → Inside v w → Member tag w → AllWithin w (map variable v ++ variable tag ∷ [])
tagged_within [] w h m = (m, tt)
tagged_within (x ∷ v) w h m = (h x Member.here, tagged_within v w (λ y n. h y (Member.later n)) m)

state_left : (g : Sig) (path : List ℕ) (v w : List Var) → Inside v w → LeftFine g w (state path v)
state_left g path v w h = left_fine g w (state path v) refl (vars_over g v) (vars_within v w h)

state_right : (g : Sig) (path : List ℕ) (v w : List Var) → Inside v w → RightFine g w (state path v)
state_right g path v w h = right_fine g w (state path v) refl (vars_over g v) (vars_within v w h)

waits_left : (g : Sig) (path : List ℕ) (v : List Var) → LeftFine g (v ++ tag ∷ []) (waits_fact path (map variable v ++ variable tag ∷ []))
waits_left g path v = left_fine g (v ++ tag ∷ []) (waits_fact path (map variable v ++ variable tag ∷ [])) refl (sent_over g v) (tagged_within v (v ++ tag ∷ []) (λ x m. member_left (tag ∷ []) m) (member_last v tag))

waits_right : (g : Sig) (path : List ℕ) (v : List Var) → RightFine g (v ++ tag ∷ []) (waits_fact path (map variable v ++ variable tag ∷ []))
waits_right g path v = right_fine g (v ++ tag ∷ []) (waits_fact path (map variable v ++ variable tag ∷ [])) refl (sent_over g v) (tagged_within v (v ++ tag ∷ []) (λ x m. member_left (tag ∷ []) m) (member_last v tag))

users_fine : (P : Fact → Type 0) (g : Sig) (w : List Var) → ((f : Fact) → is_dealing f.name ≡ false → TermsOver g f.args → AllWithin w f.args → P f) → (fs : List Fact) → AreUnreserved fs → FactsOver g fs → FactsWithin w fs → EachIn P fs
users_fine P g w ok [] u o i = tt
users_fine P g w ok (f ∷ fs) u o i = (ok f (user_name f.name (u f Member.here)) o.0 i.0, users_fine P g w ok fs (λ h m. u h (Member.later m)) o.1 i.1)

said_fine : (g : Sig) (w : List Var) (fs : List Fact) → AreUnreserved fs → FactsOver g fs → FactsWithin w fs → EachIn (ActFine g w) (embedded_acts fs)
said_fine g w [] u o i = tt
said_fine g w (f ∷ fs) u o i = (act_fine g w event_fact refl tt tt, users_fine (ActFine g w) g w (act_fine g w) (f ∷ fs) u o i)

-- a rule whose facts are fine can be run

mutual
  in_tree : (w : List Var) (t : Tree) (x : Var) → Within w t → Member x (tree_vars t) → Member x w
  in_tree w (variable y) x i m = subst (λ z. Member z w) (sym (only_member m)) i
  in_tree w (public n) x i m = elim m [ ]
  in_tree w (fresh k) x i m = elim m [ ]
  in_tree w (apply f ts) x i m = in_trees w ts x i m

  in_trees : (w : List Var) (ts : Trees) (x : Var) → EachWithin w ts → Member x (trees_vars ts) → Member x w
  in_trees w none x i m = elim m [ ]
  in_trees w (more t ts) x i m = elim (member_cases (tree_vars t) (trees_vars ts) m) [ in_left a ↦ in_tree w t x i.0 a | in_right b ↦ in_trees w ts x i.1 b ]

pub in_list : (w : List Var) (ts : List Tree) (x : Var) → AllWithin w ts → Member x (trees_vars (trees_of ts)) → Member x w
in_list w [] x i m = elim m [ ]
in_list w (t ∷ ts) x i m = elim (member_cases (tree_vars t) (trees_vars (trees_of ts)) m) [ in_left a ↦ in_tree w t x i.0 a | in_right b ↦ in_list w ts x i.1 b ]

in_facts : (w : List Var) (P : Fact → Type 0) → ((f : Fact) → P f → AllWithin w f.args) → (fs : List Fact) (x : Var) → EachIn P fs → Member x (facts_vars fs) → Member x w
in_facts w P within [] x h m = elim m [ ]
in_facts w P within (f ∷ fs) x h m = elim (member_cases (trees_vars (trees_of f.args)) (facts_vars fs) m) [ in_left a ↦ in_list w f.args x (within f h.0) a | in_right b ↦ in_facts w P within fs x h.1 b ]

trees_over : (g : Sig) (ts : List Tree) → TermsOver g ts → AreOver g (trees_of ts)
trees_over g [] h = tt
trees_over g (t ∷ ts) h = (h.0, trees_over g ts h.1)

well : (g : Sig) (w : List Var) (r : Rule) → OneSort w → EachIn (LeftFine g w) r.left → EachIn (ActFine g w) r.acts → EachIn (RightFine g w) r.right → IsWellMade g r
well g w r one left acts right =
    let inside : Inside (rule_vars r) w = λ x m. elim (member_cases (facts_vars r.left) (facts_vars r.acts ++ facts_vars r.right) m) [
      | in_left a ↦ in_facts w (LeftFine g w) (λ f h. h.2) r.left x left a
      | in_right b ↦ elim (member_cases (facts_vars r.acts) (facts_vars r.right) b) [
        | in_left a ↦ in_facts w (ActFine g w) (λ f h. h.2) r.acts x acts a
        | in_right c ↦ in_facts w (RightFine g w) (λ f h. h.2) r.right x right c
      ]
    ] in
    record {
      over = record {
        left = each_of_members r.left (λ f m. trees_over g f.args (each_at (LeftFine g w) r.left left f m).1);
        acts = each_of_members r.acts (λ f m. trees_over g f.args (each_at (ActFine g w) r.acts acts f m).1);
        right = each_of_members r.right (λ f m. trees_over g f.args (each_at (RightFine g w) r.right right f m).1);
      };
      shape = record {
        left = each_of_members r.left (λ f m. (each_at (LeftFine g w) r.left left f m).0);
        acts = each_of_members r.acts (λ f m. (each_at (ActFine g w) r.acts acts f m).0);
        right = each_of_members r.right (λ f m. (each_at (RightFine g w) r.right right f m).0);
        sorts = λ x y a b e. one x y (inside x (member x (rule_vars r) a)) (inside y (member y (rule_vars r) b)) e;
      };
    }

-- what actions take is over the signature

abbrev pub LeftOver : Sig → Action → Type 0
LeftOver g (action.new x) = Unit {0}
LeftOver g (action.out m) = Unit {0}
LeftOver g (action.send m n) = Unit {0}
LeftOver g (action.input m) = IsOver g m
LeftOver g (action.receive m n) = IsOver g m × IsOver g n
LeftOver g (action.event f) = Unit {0}
LeftOver g (action.insert m n) = Unit {0}
LeftOver g (action.delete m) = Unit {0}
LeftOver g (action.lock m i) = Unit {0}
LeftOver g (action.unlock m i) = Unit {0}
LeftOver g (action.embedded l a r) = FactsOver g l

-- so it is in the whole process
abbrev pub LeftsOver : Sig → Proc → Type 0
LeftsOver g whole.nil = Unit {0}
LeftsOver g (whole.parallel p q) = LeftsOver g p × LeftsOver g q
LeftsOver g (whole.replicated p) = LeftsOver g p
LeftsOver g (act a p) = LeftOver g a × LeftsOver g p
LeftsOver g (whole.test m n p q) = LeftsOver g p × LeftsOver g q
LeftsOver g (whole.lookup m x p q) = LeftsOver g p × LeftsOver g q

pub same : (v : List Var) → Inside v v
same v x m = m

pub among_more : (v ws : List Var) → Inside v (v ++ ws)
among_more v ws x m = member_left ws m

module _ (g : Sig) (pair : arity_of g pair_name ≡ Some 2) (path : List ℕ) (v : List Var) (one : OneSort v) where
  new_made : (x : Var) → OneSort (v ++ fresh_var x ∷ []) → EachIn (IsWellMade g) (action_rules path v (action.new x))
  new_made x wider =
      let w : List Var = v ++ fresh_var x ∷ [] in
      (well g w _ wider (state_left g path v w (among_more v _), (fresh_fine g w (fresh_var x) (member_last v (fresh_var x)), tt)) tt (state_right g (first_of path) w w (same w), tt), tt)

  out_made : (t : Tree) → IsOver g t → Within v t → EachIn (IsWellMade g) (action_rules path v (action.out t))
  out_made t o i = (well g v _ one (state_left g path v v (same v), tt) tt (out_fine g v t o i, (state_right g (first_of path) v v (same v), tt)), tt)

  send_made : (t u : Tree) → IsOver g t → IsOver g u → Within v t → Within v u → IsFree tag v → EachIn (IsWellMade g) (action_rules path v (action.send t u))
  send_made t u o r i j free =
      let w : List Var = v ++ tag ∷ [] in
      let wider : OneSort w = one_sort_more v tag free one in
      let inside : Inside v w = among_more v (tag ∷ []) in
      let last : Member tag w = member_last v tag in (
        well g v _ one (state_left g path v v (same v), (in_fine g v t o i, tt)) (act_fine g v _ refl (o, tt) (i, tt), tt) (out_fine g v u r j, (state_right g (first_of path) v v (same v), tt)),
        (
          well g w _ wider (state_left g path v w inside, (fresh_fine g w tag last, tt)) tt
              (right_fine g w (msg_fact (variable tag) t u) refl (tt, (o, (r, tt))) (last, (within_more v w inside t i, (within_more v w inside u j, tt))), (waits_right g path v, tt)),
          (well g w _ wider (waits_left g path v, (left_fine g w (ack_fact (variable tag)) refl (tt, tt) (last, tt), tt)) tt (state_right g (first_of path) v w inside, tt), tt),
        ),
      )

  input_made : (t : Tree) → OneSort (with_new v (tree_vars t)) → IsOver g t → Within (with_new v (tree_vars t)) t → EachIn (IsWellMade g) (action_rules path v (action.input t))
  input_made t wider o i =
      let w : List Var = with_new v (tree_vars t) in
      (well g w _ wider (state_left g path v w (among_more v _), (in_fine g w t o i, tt)) (act_fine g w _ refl (o, tt) (i, tt), tt) (state_right g (first_of path) w w (same w), tt), tt)

  receive_made : (t u : Tree) → OneSort (with_new v (tree_vars u)) → IsOver g t → IsOver g u → Within v t → IsFree tag (with_new v (tree_vars u)) → Within (with_new v (tree_vars u)) u → EachIn (IsWellMade g) (action_rules path v (action.receive t u))
  receive_made t u wider o r i free j =
      let w : List Var = with_new v (tree_vars u) in
      let z : List Var = w ++ tag ∷ [] in
      let k : Within w t = within_more v w (among_more v _) t i in
      let inside : Inside w z = among_more w (tag ∷ []) in
      let below : Inside v z = λ x m. inside x (among_more v _ x m) in
      let last : Member tag z = member_last w tag in
      let both : IsOver g (app2 pair_name t u) = (pair, (o, (r, tt))) in (
        well g w _ wider (state_left g path v w (among_more v _), (in_fine g w (app2 pair_name t u) both (k, (j, tt)), tt)) (act_fine g w _ refl (both, tt) ((k, (j, tt)), tt), tt) (state_right g (first_of path) w w (same w), tt),
        (
          well g z _ (one_sort_more w tag free wider)
              (state_left g path v z below, (left_fine g z (msg_fact (variable tag) t u) refl (tt, (o, (r, tt))) (last, (within_more v z below t i, (within_more w z inside u j, tt))), tt)) tt
              (right_fine g z (ack_fact (variable tag)) refl (tt, tt) (last, tt), (state_right g (first_of path) w z inside, tt)),
          tt,
        ),
      )

  event_made : (f : Fact) → is_reserved f.name ≡ false → TermsOver g f.args → AllWithin v f.args → EachIn (IsWellMade g) (action_rules path v (action.event f))
  event_made f free o i = (well g v _ one (state_left g path v v (same v), tt) (act_fine g v event_fact refl tt tt, (act_fine g v f (user_name f.name free) o i, tt)) (state_right g (first_of path) v v (same v), tt), tt)

  insert_made : (t u : Tree) → IsOver g t → IsOver g u → Within v t → Within v u → EachIn (IsWellMade g) (action_rules path v (action.insert t u))
  insert_made t u o r i j = (well g v _ one (state_left g path v v (same v), tt) (act_fine g v _ refl (o, (r, tt)) (i, (j, tt)), tt) (state_right g (first_of path) v v (same v), tt), tt)

  delete_made : (t : Tree) → IsOver g t → Within v t → EachIn (IsWellMade g) (action_rules path v (action.delete t))
  delete_made t o i = (well g v _ one (state_left g path v v (same v), tt) (act_fine g v _ refl (o, tt) (i, tt), tt) (state_right g (first_of path) v v (same v), tt), tt)

  lock_made : (t : Tree) (l : ℕ) → OneSort (v ++ lock_var l ∷ []) → IsOver g t → Within v t → EachIn (IsWellMade g) (action_rules path v (action.lock t l))
  lock_made t l wider o i =
      let w : List Var = v ++ lock_var l ∷ [] in
      let last : Member (lock_var l) w = member_last v (lock_var l) in
      (well g w _ wider (state_left g path v w (among_more v _), (fresh_fine g w (lock_var l) last, tt)) (act_fine g w _ refl (tt, (o, tt)) (last, (within_more v w (among_more v _) t i, tt)), tt) (state_right g (first_of path) w w (same w), tt), tt)

  unlock_made : (t : Tree) (l : ℕ) → Member (lock_var l) v → IsOver g t → Within v t → EachIn (IsWellMade g) (action_rules path v (action.unlock t l))
  unlock_made t l m o i = (well g v _ one (state_left g path v v (same v), tt) (act_fine g v _ refl (tt, (o, tt)) (m, (i, tt)), tt) (state_right g (first_of path) v v (same v), tt), tt)

  embedded_made : (l a r : List Fact) → OneSort (with_new v (facts_vars (l ++ (a ++ r)))) → IsSoundAction g v (action.embedded l a r) whole.nil → FactsOver g l → FactsOver g a → FactsOver g r → EachIn (IsWellMade g) (action_rules path v (action.embedded l a r))
  embedded_made l a r wider s o b c =
      let w : List Var = with_new v (facts_vars (l ++ (a ++ r))) in
      let rest : FactsWithin w (a ++ r) = within_right w l (a ++ r) s.3 in (
        well g w _ wider (state_left g path v w (among_more v _), users_fine (LeftFine g w) g w (left_fine g w) l s.0 o (within_left w l (a ++ r) s.3))
            (said_fine g w a s.1 b (within_left w a r rest))
            (state_right g (first_of path) w w (same w), users_fine (RightFine g w) g w (right_fine g w) r s.2 c (within_right w a r rest)),
        tt,
      )

  action_made : (a : Action) (p : Proc) → IsSoundAction g v a p → IsActionOver g a → LeftOver g a → EachIn (IsWellMade g) (action_rules path v a)
  action_made (action.new x) p s o l = new_made x (one_sort_behind g v (action.new x) p s one)
  action_made (action.out m) p s o l = out_made m o s
  action_made (action.send m n) p s o l = send_made m n o.0 o.1 s.0 s.1 s.2
  action_made (action.input m) p s o l = input_made m (one_sort_behind g v (action.input m) p s one) l s
  action_made (action.receive m n) p s o l = receive_made m n (one_sort_behind g v (action.receive m n) p s one) l.0 l.1 s.0 s.1 s.2
  action_made (action.event f) p s o l = event_made f o.0 o.1 s.1
  action_made (action.insert m n) p s o l = insert_made m n o.0 o.1 s.0 s.1
  action_made (action.delete m) p s o l = delete_made m o s
  action_made (action.lock m i) p s o l = lock_made m i (one_sort_behind g v (action.lock m i) p s one) o s.0
  action_made (action.unlock m i) p s o l = unlock_made m i s.1 o s.0
  action_made (action.embedded x e r) p s o l = embedded_made x e r (one_sort_behind g v (action.embedded x e r) p s one) s l o.1 o.2

  nil_made : EachIn (IsWellMade g) (own_rules path v whole.nil)
  nil_made = (well g v _ one (state_left g path v v (same v), tt) tt tt, tt)

  parallel_made : (p q : Proc) → EachIn (IsWellMade g) (own_rules path v (whole.parallel p q))
  parallel_made p q = (well g v _ one (state_left g path v v (same v), tt) tt (state_right g (first_of path) v v (same v), (state_right g (second_of path) v v (same v), tt)), tt)

  replicated_made : (p : Proc) → EachIn (IsWellMade g) (own_rules path v (whole.replicated p))
  replicated_made p = (
    well g v _ one (state_left g path v v (same v), tt) tt (right_fine g v (copies_fact path (map variable v)) refl (vars_over g v) (vars_within v v (same v)), tt),
    (well g v _ one (left_fine g v (copies_fact path (map variable v)) refl (vars_over g v) (vars_within v v (same v)), tt) tt (state_right g (first_of path) v v (same v), tt), tt),
  )

  test_made : (t u : Tree) (p q : Proc) → IsOver g t → IsOver g u → Within v t → Within v u → EachIn (IsWellMade g) (own_rules path v (whole.test t u p q))
  test_made t u p q o r i j = (
    well g v _ one (state_left g path v v (same v), tt) (act_fine g v _ refl (o, (r, tt)) (i, (j, tt)), tt) (state_right g (first_of path) v v (same v), tt),
    (well g v _ one (state_left g path v v (same v), tt) (act_fine g v _ refl (o, (r, tt)) (i, (j, tt)), tt) (state_right g (second_of path) v v (same v), tt), tt),
  )

  lookup_made : (t : Tree) (x : Var) (p q : Proc) → IsOver g t → Within v t → IsFree x v → EachIn (IsWellMade g) (own_rules path v (whole.lookup t x p q))
  lookup_made t x p q o i free =
      let w : List Var = v ++ message_var x ∷ [] in
      let inside : Inside v w = among_more v (message_var x ∷ []) in (
        well g w _ (one_sort_more v (message_var x) free one) (state_left g path v w inside, tt) (act_fine g w _ refl (o, (tt, tt)) (within_more v w inside t i, (member_last v (message_var x), tt)), tt) (state_right g (first_of path) w w (same w), tt),
        (well g v _ one (state_left g path v v (same v), tt) (act_fine g v _ refl (o, tt) (i, tt), tt) (state_right g (second_of path) v v (same v), tt), tt),
      )

-- sound at each place from here on
abbrev SoundFrom : Sig → List ℕ → List Var → Proc → Type 0
SoundFrom g at v p = (path : List ℕ) (b : ScopedPlace) → scoped_place_at (Some (place at v p)) path ≡ Some b → SoundAt g b.above b.body

module _ (g : Sig) (pair : arity_of g pair_name ≡ Some 2) where
  places_made : (path : List ℕ) (v : List Var) (p : Proc) → OneSort v → SoundFrom g path v p → IsProcessOver g p → LeftsOver g p → EachIn (IsWellMade g) (place_rules path v p)
  places_made path v whole.nil one s o l = nil_made g pair path v one
  places_made path v (whole.parallel p q) one s o l =
      each_both (IsWellMade g) (own_rules path v (whole.parallel p q)) (place_rules (first_of path) v p ++ place_rules (second_of path) v q) (parallel_made g pair path v one p q)
      (each_both (IsWellMade g) (place_rules (first_of path) v p) (place_rules (second_of path) v q) (places_made (first_of path) v p one (λ k b e. s (1 ∷ k) b e) o.0 l.0) (places_made (second_of path) v q one (λ k b e. s (2 ∷ k) b e) o.1 l.1))
  places_made path v (whole.replicated p) one s o l =
      each_both (IsWellMade g) (own_rules path v (whole.replicated p)) (place_rules (first_of path) v p) (replicated_made g pair path v one p) (places_made (first_of path) v p one (λ k b e. s (1 ∷ k) b e) o l)
  places_made path v (act a p) one s o l =
      let here : IsSoundAction g v a p = s [] (place path v (act a p)) refl in
      each_both (IsWellMade g) (action_rules path v a) (place_rules (first_of path) (scope_behind v a) p) (action_made g pair path v one a p here o.0 l.0)
      (places_made (first_of path) (scope_behind v a) p (one_sort_behind g v a p here one) (λ k b e. s (1 ∷ k) b e) o.1 l.1)
  places_made path v (whole.test t u p q) one s o l =
      let here : Within v t × Within v u = s [] (place path v (whole.test t u p q)) refl in
      each_both (IsWellMade g) (own_rules path v (whole.test t u p q)) (place_rules (first_of path) v p ++ place_rules (second_of path) v q) (test_made g pair path v one t u p q o.0 o.1 here.0 here.1)
      (each_both (IsWellMade g) (place_rules (first_of path) v p) (place_rules (second_of path) v q) (places_made (first_of path) v p one (λ k b e. s (1 ∷ k) b e) o.2 l.0) (places_made (second_of path) v q one (λ k b e. s (2 ∷ k) b e) o.3 l.1))
  places_made path v (whole.lookup t x p q) one s o l =
      let here : Within v t × IsFree x v = s [] (place path v (whole.lookup t x p q)) refl in
      let w : List Var = v ++ message_var x ∷ [] in
      each_both (IsWellMade g) (own_rules path v (whole.lookup t x p q)) (place_rules (first_of path) w p ++ place_rules (second_of path) v q) (lookup_made g pair path v one t x p q o.0 here.0 here.1)
      (each_both (IsWellMade g) (place_rules (first_of path) w p) (place_rules (second_of path) v q) (places_made (first_of path) w p (one_sort_more v (message_var x) here.1 one) (λ k b e. s (1 ∷ k) b e) o.1 l.0) (places_made (second_of path) v q one (λ k b e. s (2 ∷ k) b e) o.2 l.1))

none_in_scope : OneSort []
none_in_scope x y m n e = elim m [ ]

init_made : (g : Sig) → IsWellMade g init_rule
init_made g = well g [] init_rule none_in_scope tt (act_fine g [] _ refl tt tt, tt) (state_right g [] [] [] (same []), tt)

pub rules_made : (g : Sig) (p : Proc) → arity_of g pair_name ≡ Some 2 → SoundFrom g [] [] p → IsProcessOver g p → LeftsOver g p → All (IsWellMade g) (rules_of p)
rules_made g p pair s o l = each_of_members (rules_of p) (λ r m. each_at (IsWellMade g) (rules_of p) (init_made g, places_made g pair [] [] p none_in_scope s o l) r m)

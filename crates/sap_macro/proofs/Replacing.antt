-- Names without parameters are replaced by what they stand for.
use Rattle.std.proofs.Common.{◌≡◌, ℕ, true, false, List, [], ◌∷◌, ◌++◌, map, refl, sym, ap, ◌∙◌, subst, ⊎_elim}
use Rattle.std.proofs.lemmas.Bool.{cases_Bool, false≢true}
use Rattle.std.proofs.lemmas.List.Elements.{Contains-append_left, Contains-append_right, Contains-append_cases}
use Rattle.std.specs.Prelude.{if◌then◌else◌, Contains}
use Rattle.std.specs.Str.{bytes_eq}
use Rattle.sap_terms.specs.Choice.{instance}
use Rattle.sap_terms.specs.Tree.{Tree}
use Rattle.sap_terms.specs.Variables.{is_known}
use Rattle.sap_terms.proofs.PlainLaws.Items.{cons_cases, first_item, got_contained, none_contained}
use Rattle.sap_process.specs.Action.{Action, new, out, send, input, receive, event, insert, delete, lock, unlock, embedded}
use Rattle.sap_process.specs.Proc as whole
use Rattle.sap_macro.specs.Expansion.{Meaning, Plain, binding, expanded, expansion, meaning_of, no_meaning, plain, plain_after, plain_bodies, same_name, unchanged, where_none, with_plain, with_plain_body, with_uses}
use Rattle.sap_process.specs.Instance.{action_instance}
use Rattle.sap_macro.specs.MacroCauses.{Use, uses}
use Rattle.sap_macro.specs.Order.{AreInOrder, UsesOnly}
use Rattle.sap_macro.specs.Replaced.{AreWithoutParameters, Stands, nothing_stands, process_of, replaced, with_standing}
use Rattle.sap_macro.specs.Seen.{seen}
use Rattle.sap_macro.specs.Written.{Written, nil, call, parallel, replicated, act, test, lookup, Definition}
use Rattle.sap_macro.specs.Indexed.{defined}
use Rattle.sap_terms.proofs.PlainLaws.Known.{two_names, in_cases, not_in, out_of}
use Rattle.sap_macro.proofs.Resolving.{apart_from, meaning_stays, plain_stays, resolved, uses_agree, with_body}
use Rattle.sap_macro.proofs.Kept.{action_kept, kept}

-- a head without arguments to put
binding_kept : (a : Action) → binding same_name (action_instance unchanged a) ≡ a
binding_kept a = ap (binding same_name) (action_kept a) ∙ same a where
  same : (a : Action) → binding same_name a ≡ a
  same (new x) = refl
  same (out t) = refl
  same (send t u) = refl
  same (input t) = refl
  same (receive t u) = refl
  same (event f) = refl
  same (insert t u) = refl
  same (delete t) = refl
  same (lock t n) = refl
  same (unlock t n) = refl
  same (embedded l e r) = refl

-- ---- what names stand for

-- the process that a name's process becomes, and what is said to stand for it
abbrev IsSaid : Plain → Meaning → Stands → List ℕ → List Tree → Type 0
IsSaid p m s f ts = (taken : List (List ℕ)) → (expanded m unchanged same_name (p f ts) taken).process ≡ s f

module _ (p : Plain) (m : Meaning) (s : Stands) where
  abbrev AreSaid : Written → Type 0
  AreSaid w = (u : Use) → Contains (uses w) u → IsSaid p m s u.0 u.1

  first_said : (a b : List Use) → ((u : Use) → Contains (a ++ b) u → IsSaid p m s u.0 u.1) → (u : Use) → Contains a u → IsSaid p m s u.0 u.1
  first_said a b h u c = h u (Contains-append_left a b u c)

  second_said : (a b : List Use) → ((u : Use) → Contains (a ++ b) u → IsSaid p m s u.0 u.1) → (u : Use) → Contains b u → IsSaid p m s u.0 u.1
  second_said a b h u c = h u (Contains-append_right a b u c)

  -- where each use becomes what is said, so does the process
  replaced_is : (w : Written) → AreSaid w → (taken : List (List ℕ)) → (expanded m unchanged same_name (with_uses p w) taken).process ≡ replaced s w
  replaced_is nil h taken = refl
  replaced_is (call f ts) h taken = h (f, ts) (first_item (f, ts) []) taken
  replaced_is (parallel a b) h taken =
      λ i. whole.parallel (replaced_is a (first_said (uses a) (uses b) h) taken i)
      (replaced_is b (second_said (uses a) (uses b) h) (expanded m unchanged same_name (with_uses p a) taken).taken i)
  replaced_is (replicated a) h taken = ap whole.replicated (replaced_is a h taken)
  replaced_is (act x a) h taken = λ i. whole.act (binding_kept x i) (replaced_is a h taken i)
  replaced_is (test t u a b) h taken =
      λ i. whole.test (kept t i) (kept u i) (replaced_is a (first_said (uses a) (uses b) h) taken i)
      (replaced_is b (second_said (uses a) (uses b) h) (expanded m unchanged same_name (with_uses p a) taken).taken i)
  replaced_is (lookup t x a b) h taken =
      λ i. whole.lookup (kept t i) x (replaced_is a (first_said (uses a) (uses b) h) taken i)
      (replaced_is b (second_said (uses a) (uses b) h) (expanded m unchanged same_name (with_uses p a) taken).taken i)

-- without uses a process stays, whatever names mean
unused_stays : (m : Meaning) (w : Written) (taken : List (List ℕ)) → UsesOnly [] w → (expanded m unchanged same_name w taken).process ≡ seen w
unused_stays m nil taken h = refl
unused_stays m (call f ts) taken h = absurd (false≢true h)
unused_stays m (parallel a b) taken h =
    λ i. whole.parallel (unused_stays m a taken h.0 i) (unused_stays m b (expanded m unchanged same_name a taken).taken h.1 i)
unused_stays m (replicated a) taken h = ap whole.replicated (unused_stays m a taken h)
unused_stays m (act x a) taken h = λ i. whole.act (binding_kept x i) (unused_stays m a taken h i)
unused_stays m (test t u a b) taken h =
    λ i. whole.test (kept t i) (kept u i) (unused_stays m a taken h.0 i) (unused_stays m b (expanded m unchanged same_name a taken).taken h.1 i)
unused_stays m (lookup t x a b) taken h =
    λ i. whole.lookup (kept t i) x (unused_stays m a taken h.0 i) (unused_stays m b (expanded m unchanged same_name a taken).taken h.1 i)

pub left_stays : (ds : List Definition) (p : Written) (identifiers : List (List ℕ)) → UsesOnly [] (plain ds p) → (expansion ds identifiers p).process ≡ seen (plain ds p)
left_stays ds p identifiers h = unused_stays (meaning_of (plain_bodies call ds)) (plain ds p) identifiers h

-- each use of a process is one of a known name
module _ (known : List (List ℕ)) (u : Use) where
  known_in_two : (a b : List Use) → (Contains a u → is_known known u.0 ≡ true) → (Contains b u → is_known known u.0 ≡ true) → Contains (a ++ b) u
      → is_known known u.0 ≡ true
  known_in_two a b h k c = ⊎_elim h k (Contains-append_cases a b u c)

  used_known : (w : Written) → UsesOnly known w → Contains (uses w) u → is_known known u.0 ≡ true
  used_known nil h c = absurd (none_contained c)
  used_known (call f ts) h c =
      ⊎_elim (λ e. subst (λ (v : Use). is_known known v.0 ≡ true) e h) (λ n. absurd (none_contained n)) (cons_cases (f, ts) [] u c)
  used_known (parallel a b) h c = known_in_two (uses a) (uses b) (used_known a h.0) (used_known b h.1) c
  used_known (replicated a) h c = used_known a h c
  used_known (act x a) h c = used_known a h c
  used_known (test t v a b) h c = known_in_two (uses a) (uses b) (used_known a h.0) (used_known b h.1) c
  used_known (lookup t x a b) h c = known_in_two (uses a) (uses b) (used_known a h.0) (used_known b h.1) c

-- ---- definition by definition

-- a known name becomes what is said, whatever names mean; another one stays, and nothing is said to stand for it
pub record AreReplaced (known : List (List ℕ)) (p : Plain) (s : Stands) : Type 0 where
  pub known_said : (f : List ℕ) (ts : List Tree) → is_known known f ≡ true → (m : Meaning) → IsSaid p m s f ts
  pub other_stays : (f : List ℕ) (ts : List Tree) → is_known known f ≡ false → p f ts ≡ call f ts
  pub other_nothing : (f : List ℕ) → is_known known f ≡ false → s f ≡ whole.nil

none_first : (xs : List (List ℕ)) (p q : Written) → xs ≡ [] → where_none xs p q ≡ p
none_first xs p q e = ap (λ ys. where_none ys p q) e

module _ (known : List (List ℕ)) (p : Plain) (s : Stands) (d : Definition) (only : UsesOnly known d.body) (plain_one : d.params ≡ []) (h : AreReplaced known p s) where
  own_said : (m : Meaning) (taken : List (List ℕ)) → (expanded m unchanged same_name (with_uses p d.body) taken).process ≡ replaced s d.body
  own_said m taken = replaced_is p m s d.body (λ u c. h.known_said u.0 u.1 (used_known known u d.body only c) m) taken

  stands_with : (f : List ℕ) (ts : List Tree) → is_known (d.name ∷ known) f ≡ true → (m : Meaning) → IsSaid (with_plain p d) m (with_standing s d) f ts
  stands_with f ts k m taken =
      ⊎_elim
      (λ e. ap (λ b. (expanded m unchanged same_name (if b then where_none d.params (with_uses p d.body) (call f ts) else p f ts) taken).process) e
      ∙ ap (λ w. (expanded m unchanged same_name w taken).process) (none_first d.params (with_uses p d.body) (call f ts) plain_one) ∙ own_said m taken
      ∙ sym (ap (λ b. if b then replaced s d.body else s f) e))
      (λ e. ap (λ b. (expanded m unchanged same_name (if b then where_none d.params (with_uses p d.body) (call f ts) else p f ts) taken).process) e
      ∙ h.known_said f ts (later e) m taken ∙ sym (ap (λ b. if b then replaced s d.body else s f) e))
      (cases_Bool (bytes_eq d.name f)) where
        later : bytes_eq d.name f ≡ false → is_known known f ≡ true
        later e = ⊎_elim (λ o. absurd (two_names d.name f e o)) (λ o. o) (in_cases f d.name known k)

  replaced_with : AreReplaced (d.name ∷ known) (with_plain p d) (with_standing s d)
  replaced_with = record {
    known_said = stands_with;
    other_stays = λ f ts k. let o = not_in f d.name known k in
        ap (λ b. if b then where_none d.params (with_uses p d.body) (call f ts) else p f ts) o.0 ∙ h.other_stays f ts o.1;
    other_nothing = λ f k. let o = not_in f d.name known k in ap (λ b. if b then replaced s d.body else s f) o.0 ∙ h.other_nothing f o.1;
  }

-- names that these don't define, and that weren't known before, mean `0`
abbrev MeanNothing : Meaning → List (List ℕ) → List Definition → Type 0
MeanNothing m known ds = (f : List ℕ) (ts : List Tree) (taken : List (List ℕ)) → is_known known f ≡ false → is_known (defined ds) f ≡ false → (m f ts taken).process ≡ whole.nil

all_replaced : (ds : List Definition) (known : List (List ℕ)) (p : Plain) (s : Stands) (m : Meaning) → AreInOrder known ds → AreWithoutParameters ds → AreReplaced known p s
    → MeanNothing m known ds → (w : Written) (taken : List (List ℕ)) → (expanded m unchanged same_name (with_uses (plain_after p ds) w) taken).process ≡ process_of s ds w
all_replaced [] known p s m o none h n w taken = replaced_is p m s w (λ u c. each u) taken where
  each : (u : Use) → IsSaid p m s u.0 u.1
  each u t =
      ⊎_elim (λ k. h.known_said u.0 u.1 k m t)
      (λ k. ap (λ v. (expanded m unchanged same_name v t).process) (h.other_stays u.0 u.1 k) ∙ n u.0 (map (instance unchanged) u.1) t k refl ∙ sym (h.other_nothing u.0 k))
      (cases_Bool (is_known known u.0))
all_replaced (d ∷ ds) known p s m o none h n w taken =
    all_replaced ds (d.name ∷ known) (with_plain p d) (with_standing s d) m o.1.1 none.1 (replaced_with known p s d o.1.0 none.0 h)
    (λ f ts t k e. let other = not_in f d.name known k in n f ts t other.1 (out_of f d.name (defined ds) other.0 e)) w taken

pub plain_files_stay : (ds : List Definition) (p : Written) (identifiers : List (List ℕ)) → AreInOrder [] ds → AreWithoutParameters ds
    → (expansion ds identifiers p).process ≡ process_of nothing_stands ds p
plain_files_stay ds w identifiers o none =
    all_replaced ds [] call nothing_stands (meaning_of (plain_bodies call ds)) o none
    (record { known_said = λ f ts k. absurd (false≢true k); other_stays = λ f ts k. refl; other_nothing = λ f k. refl })
    (λ f ts t k e. ap (λ x. x.process) (meaning_stays ds call no_meaning f ts t e)) w identifiers

-- ---- plain bodies

bodies_at : (ds : List Definition) (known : List (List ℕ)) (p : Plain) → AreInOrder known ds → plain_bodies p ds ≡ map (with_body (plain_after p ds)) ds
bodies_at [] known p h = refl
bodies_at (d ∷ ds) known p h =
    λ i. with_body_of (uses_agree known d.body p (plain_after p (d ∷ ds)) h.1.0 (λ f ts k. sym (plain_stays (d ∷ ds) p f ts (apart_from (d ∷ ds) known h f k))) i)
    ∷ bodies_at ds (d.name ∷ known) (with_plain p d) h.1.1 i
  where
    with_body_of : Written → Definition
    with_body_of w = record d { body = w }

pub plain_bodies_are : (ds : List Definition) → AreInOrder [] ds → plain_bodies call ds ≡ map (with_plain_body ds) ds
plain_bodies_are ds h = bodies_at ds [] call h

pub defined_stands : (ds : List Definition) (d : Definition) (ts : List Tree) → AreInOrder [] ds → Contains ds d
    → plain_after call ds d.name ts ≡ where_none d.params (plain ds d.body) (call d.name ts)
defined_stands ds d ts h c = let got = got_contained ds d c in (resolved ds got.0 d h got.1).plain ts

pub other_stays : (ds : List Definition) (f : List ℕ) (ts : List Tree) → is_known (defined ds) f ≡ false → plain_after call ds f ts ≡ call f ts
other_stays ds f ts h = plain_stays ds call f ts h

-- Heads and steps of small processes that run as they are written.
use Rattle.std.proofs.Common.{◌≡◌, ℕ, zero, suc, true, false, List, [], ◌∷◌, Some, refl, sym, ap, ◌∙◌, subst, ⊎_elim}
use Rattle.std.proofs.lemmas.Bool.{true≢false}
use Rattle.std.specs.Prelude.{codes, Contains}
use Rattle.std.specs.Str.{bytes_eq}
use Rattle.sap_terms.specs.Equal.{same}
use Rattle.sap_terms.specs.Equations.{equations}
use Rattle.sap_terms.specs.Laws.{LeavesAreNormal}
use Rattle.sap_terms.specs.Modulo.{IsFormOfFact}
use Rattle.sap_terms.specs.Signature.{Sig}
use Rattle.sap_terms.specs.Tree.{Tree, fresh}
use Rattle.sap_terms.specs.declared.fact.Fact.{Fact}
use Rattle.sap_terms.specs.declared.var.Sort.TheVariants.{Fresh}
use Rattle.sap_process.specs.Action.{new, event, out}
use Rattle.sap_process.specs.Configuration.{ConfigOf, initial, makes, spawns}
use Rattle.sap_process.specs.Head as head
use Rattle.sap_process.specs.Head.{Head}
use Rattle.sap_process.specs.ProcessSteps.{ProcessStep, ends, splits, copies, makes_name, outputs, outputs_on, inputs, inputs_on, meets, agrees, differs, shows, inserts, deletes, finds, misses, locks, unlocks, embeds, adversary_makes, knows, starts, further}
use Rattle.sap_macro.specs.ExpansionExamples.{a, b, of_name, fresh_of, news, pairing}
use Rattle.sap_macro.specs.NameExamples.{both}
use Rattle.sap_macro.specs.Order.{AreInOrder}
use Rattle.sap_macro.specs.UpToNames.{named}
use Rattle.sap_macro.specs.Written.{Written, nil, call, parallel, act, Definition}
use Rattle.sap_macro.specs.WrittenExamples.{told, telling, telling_x, passing, telling_again, told_by_two, use_a, use_b, use_c}
use Rattle.sap_macro.specs.WrittenRuns.{StartsWith, itself, use_of, StandsAs, IsWrittenTrace, writing}
use Rattle.sap_macro.proofs.WrittenHeads.{heads_are_one, not_a_use}
use Rattle.sap_terms.proofs.PlainLaws.Items.{first_item, later_item, item_cases, cons_cases, none_contained}

-- ---- what starts with what

-- no definition is there
undefined_alone : (ds : List Definition) (f : List ℕ) → ((d : Definition) → Contains ds d → ¬ (d.name ≡ f)) → (w : Written) (ts : List Tree) (h : Head Written) → StartsWith ds w h → ¬ (w ≡ call f ts)
undefined_alone ds f n _ ts h (itself _) e = not_a_use h f ts e
undefined_alone ds f n _ ts h (use_of d {ts = us} c s) e = let same_name : d.name ≡ f = cc in n d c same_name

-- names that a test tells apart are two
pub other_name : (x y : List ℕ) → bytes_eq x y ≡ false → bytes_eq y y ≡ true → ¬ (x ≡ y)
other_name x y h k e = true≢false (sym k ∙ sym (ap (λ z. bytes_eq z y) e) ∙ h)

two_in_order : AreInOrder [] told_by_two
two_in_order = (refl, (tt, (refl, (refl, tt))))

pub use_starts : StartsWith told_by_two use_a (head.act (event (told a)) nil)
use_starts = use_of telling_x (first_item telling_x (passing ∷ [])) (itself (head.act (event (told a)) nil))

pub use_only : (h : Head Written) → StartsWith told_by_two use_a h → h ≡ head.act (event (told a)) nil
use_only h s = heads_are_one told_by_two use_a h (head.act (event (told a)) nil) two_in_order s use_starts

pub use_of_use : StartsWith told_by_two use_b (head.act (event (told (both a a))) nil)
use_of_use =
    use_of passing (later_item telling_x (passing ∷ []) passing (first_item passing []))
    (use_of telling_x (first_item telling_x (passing ∷ [])) (itself (head.act (event (told (both a a))) nil)))

pub use_of_use_only : (h : Head Written) → StartsWith told_by_two use_b h → h ≡ head.act (event (told (both a a))) nil
use_of_use_only h s = heads_are_one told_by_two use_b h (head.act (event (told (both a a))) nil) two_in_order s use_of_use

pub undefined : (ts : List Tree) (h : Head Written) → ¬ StartsWith told_by_two (call (codes "C") ts) h
undefined ts h s =
    undefined_alone told_by_two (codes "C")
    (λ d c.
    ⊎_elim (λ e. subst (λ z. ¬ (z.name ≡ codes "C")) e (other_name (codes "A") (codes "C") refl refl))
    (λ k. subst (λ z. ¬ (z.name ≡ codes "C")) (item_cases passing d k) (other_name (codes "B") (codes "C") refl refl)) (cons_cases telling_x (passing ∷ []) d c))
    (call (codes "C") ts) ts h s refl

pub form : (p q : Written) (h : Head Written) → StartsWith told_by_two (parallel p q) h → h ≡ head.parallel p q
form p q h s = heads_are_one told_by_two (parallel p q) h (head.parallel p q) two_in_order s (itself (head.parallel p q))

pub at_once : (h : Head Written) → StartsWith (pairing ∷ []) (call (codes "A") (of_name (codes "y") ∷ b ∷ [])) h → h ≡ head.act (out (both (of_name (codes "y")) b)) nil
at_once h s =
    let k : Head Written = head.act (out (both (of_name (codes "y")) b)) nil in
    heads_are_one (pairing ∷ []) (call (codes "A") (of_name (codes "y") ∷ b ∷ [])) h k (refl, (tt, tt)) s (use_of pairing (first_item pairing []) (itself k))

-- ---- steps

module _ (normal : LeavesAreNormal) (g : Sig) where
  told_form : IsFormOfFact (equations g) (told a) (told a)
  told_form = record { name = refl; persistent = refl; args = (record { equal = same; normal = normal.of_public_name (equations g) (codes "a") }, tt) }

  pub shown_once : ProcessStep g {kind = writing told_by_two} (initial use_a) (told a ∷ []) (initial nil)
  shown_once = shows 0 (record { process = use_a; runs = refl; head = use_starts }) told_form

  pub shown_trace : IsWrittenTrace g told_by_two use_a ((told a ∷ []) ∷ [])
  shown_trace = (initial nil, further starts shown_once)

pub one_copy : (g : Sig) → ProcessStep g {kind = writing (telling_again ∷ [])} (initial use_a) [] (spawns (initial use_a) (telling a))
one_copy g = copies 0 (record { process = use_a; runs = refl; head = use_of telling_again (first_item telling_again []) (itself (head.replicated (telling a))) })

pub one_replaced : (g : Sig)
    → ProcessStep g {kind = writing told_by_two} (initial (news (codes "n") (call (codes "A") (fresh_of (codes "n") ∷ [])))) [] (makes (initial (call (codes "A") (fresh 7 ∷ []))) 7)
one_replaced g =
    let p = call (codes "A") (fresh_of (codes "n") ∷ []) in
    let h : Head Written = head.act (new (named (codes "n") Fresh)) p in
    makes_name 0 7 (record { process = act (new (named (codes "n") Fresh)) p; runs = refl; head = itself h }) ((λ c. none_contained c), (λ c. none_contained c))

module _ (ds : List Definition) (w : Written) where
  head_there : (t : ℕ) (h : Head Written) → StandsAs ds (Some w ∷ []) t h → StartsWith ds w h
  head_there zero h s = let r = s.runs in let e : s.process ≡ w = cc in subst (λ z. StartsWith ds z h) e s.head
  head_there (suc t) h s = let r = s.runs in cc

  -- what has no head stays
  stays : ((h : Head Written) → ¬ StartsWith ds w h) → (g : Sig) (label : List Fact) (d : ConfigOf (writing ds)) → ProcessStep g (initial w) label d → d.threads ≡ Some w ∷ []
  stays n g _ _ (ends t r) = absurd (n _ (head_there t _ r))
  stays n g _ _ (splits t r) = absurd (n _ (head_there t _ r))
  stays n g _ _ (copies t r) = absurd (n _ (head_there t _ r))
  stays n g _ _ (makes_name t k r i) = absurd (n _ (head_there t _ r))
  stays n g _ _ (outputs t r i) = absurd (n _ (head_there t _ r))
  stays n g _ _ (outputs_on t r i j o) = absurd (n _ (head_there t _ r))
  stays n g _ _ (inputs t σ r i j) = absurd (n _ (head_there t _ r))
  stays n g _ _ (inputs_on t σ r i j o) = absurd (n _ (head_there t _ r))
  stays n g _ _ (meets s t σ r k i j) = absurd (n _ (head_there s _ r))
  stays n g _ _ (agrees t r i) = absurd (n _ (head_there t _ r))
  stays n g _ _ (differs t r i) = absurd (n _ (head_there t _ r))
  stays n g _ _ (shows t r i) = absurd (n _ (head_there t _ r))
  stays n g _ _ (inserts t r i j) = absurd (n _ (head_there t _ r))
  stays n g _ _ (deletes t r i) = absurd (n _ (head_there t _ r))
  stays n g _ _ (finds t r i j) = absurd (n _ (head_there t _ r))
  stays n g _ _ (misses t r i j) = absurd (n _ (head_there t _ r))
  stays n g _ _ (locks t r i j) = absurd (n _ (head_there t _ r))
  stays n g _ _ (unlocks t r i) = absurd (n _ (head_there t _ r))
  stays n g _ _ (embeds t ks σ left acts right r m i j k o) = absurd (n _ (head_there t _ r))
  stays n g _ _ (adversary_makes k i) = refl
  stays n g _ _ (knows x i) = refl

pub undefined_stays : (g : Sig) (label : List Fact) (d : ConfigOf (writing told_by_two)) → ProcessStep g (initial use_c) label d → d.threads ≡ Some use_c ∷ []
undefined_stays = stays told_by_two use_c (undefined (a ∷ []))

-- where nothing is shown the use stays
event_head : (t : ℕ) (h : Head Written) → StandsAs told_by_two (Some use_a ∷ []) t h → h ≡ head.act (event (told a)) nil
event_head t h s = use_only h (head_there told_by_two use_a t h s)

stays_use : (g : Sig) (label : List Fact) (d : ConfigOf (writing told_by_two)) → ProcessStep g (initial use_a) label d → label ≡ [] → d.threads ≡ Some use_a ∷ []
stays_use g _ _ (ends t r) e = let f = event_head t _ r in cc
stays_use g _ _ (splits t r) e = let f = event_head t _ r in cc
stays_use g _ _ (copies t r) e = let f = event_head t _ r in cc
stays_use g _ _ (makes_name t k r i) e = let f = event_head t _ r in cc
stays_use g _ _ (outputs t r i) e = let f = event_head t _ r in cc
stays_use g _ _ (outputs_on t r i j o) e = cc
stays_use g _ _ (inputs t σ r i j) e = cc
stays_use g _ _ (inputs_on t σ r i j o) e = cc
stays_use g _ _ (meets s t σ r k i j) e = let f = event_head s _ r in cc
stays_use g _ _ (agrees t r i) e = let f = event_head t _ r in cc
stays_use g _ _ (differs t r i) e = let f = event_head t _ r in cc
stays_use g _ _ (shows t r i) e = cc
stays_use g _ _ (inserts t r i j) e = let f = event_head t _ r in cc
stays_use g _ _ (deletes t r i) e = let f = event_head t _ r in cc
stays_use g _ _ (finds t r i j) e = let f = event_head t _ r in cc
stays_use g _ _ (misses t r i j) e = let f = event_head t _ r in cc
stays_use g _ _ (locks t r i j) e = let f = event_head t _ r in cc
stays_use g _ _ (unlocks t r i) e = let f = event_head t _ r in cc
stays_use g _ _ (embeds t ks σ left acts right r m i j k o) e = let f = event_head t _ r in cc
stays_use g _ _ (adversary_makes k i) e = refl
stays_use g _ _ (knows x i) e = cc

pub no_own_step : (g : Sig) (d : ConfigOf (writing told_by_two)) → ProcessStep g (initial use_a) [] d → d.threads ≡ Some use_a ∷ []
no_own_step g d s = stays_use g [] d s refl

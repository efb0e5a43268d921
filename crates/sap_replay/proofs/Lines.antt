-- Lines of verdicts, one behind another.
use Rattle.std.proofs.Common.{◌≡◌, ◌≤◌, ◌+◌, ℕ, zero, suc, List, [], ◌∷◌, ◌++◌, length, drop, slice_get, Some, refl, sym, ap, subst, ◌∙◌, append_assoc, arith}
use Rattle.std.proofs.lemmas.List.{append-nil}
use Rattle.sap_terms.proofs.PlainLaws.Lists.{drop_got}
use Rattle.sap_terms.specs.Signature.{Sig}
use Rattle.sap_terms.specs.Trace.{Trace}
use Rattle.sap_formula.specs.Form.{LemmaForm, RestrictionForm}
use Rattle.sap_formula.specs.Truth.{EachIn}
use Rattle.sap_replay.specs.Verdicts.{AreVerdicts, no_line, line_more, Judged, judged_lemmas, judged_restrictions, all_judged, verdict_line}
use Rattle.sap_replay.specs.code.Verdicts.{Adds, IsLineFor}

-- what comes behind a list's items from a place on, with which the whole is such
pub record Behind (g : Sig) (tr : Trace) (whole rest : List Judged) (old now : List ℕ) : Type 0 where
  pub ends : (t : List ℕ) → AreVerdicts g tr rest t → Adds (AreVerdicts g tr whole) old (now ++ t)

pub nothing_behind : (g : Sig) (tr : Trace) (whole : List Judged) (old : List ℕ) → Behind g tr whole whole old old
nothing_behind g tr whole old = record { ends = λ t v. record { more = t; are = v; put = refl } }

pub one_behind : (g : Sig) (tr : Trace) (whole rest : List Judged) (x : Judged) (old now next : List ℕ) → Behind g tr whole (x ∷ rest) old now
    → Adds (IsLineFor g tr x.name x.formula) now next → Behind g tr whole rest old next
one_behind g tr whole rest x old now next b a = record {
  ends = λ t v.
      let line = a.are in
      let all = b.ends (a.more ++ t) (subst (λ (y : List ℕ). AreVerdicts g tr (x ∷ rest) (y ++ t)) (sym line.layout) (line_more line.verdict line.true_or_false v)) in
      let same : now ++ (a.more ++ t) ≡ next ++ t = sym (append_assoc now a.more t) ∙ ap (λ (y : List ℕ). y ++ t) (sym a.put) in
      subst (λ (y : List ℕ). Adds (AreVerdicts g tr whole) old y) same all;
}

pub all_behind : (g : Sig) (tr : Trace) (whole : List Judged) (old now : List ℕ) → Behind g tr whole [] old now → Adds (AreVerdicts g tr whole) old now
all_behind g tr whole old now b = subst (λ (y : List ℕ). Adds (AreVerdicts g tr whole) old y) (append-nil now) (b.ends [] no_line)

drop_past : {A : Type 0} (xs : List A) (k : ℕ) → length xs ≤ k → drop k xs ≡ []
drop_past [] zero h = refl
drop_past [] (suc k) h = refl
drop_past (x ∷ xs) zero h = absurd (omega arith)
drop_past (x ∷ xs) (suc k) h = drop_past xs k (omega arith)

-- what each item of a list has, the one at a place has
pub each_at : {A : Type 0} (P : A → Type 0) (xs : List A) (k : ℕ) (x : A) → EachIn P xs → slice_get xs k ≡ Some x → P x
each_at P [] k x a h = cc
each_at P (y ∷ ys) zero x a h = let same : y ≡ x = cc in subst P same a.0
each_at P (y ∷ ys) (suc k) x a h = each_at P ys k x a.1 h

-- the line of the restriction at a place was put
pub restriction_behind : (g : Sig) (tr : Trace) (rs : List RestrictionForm) (k : ℕ) (r : RestrictionForm) (old now next : List ℕ) → slice_get rs k ≡ Some r
    → Behind g tr (judged_restrictions rs) (judged_restrictions (drop k rs)) old now → Adds (IsLineFor g tr r.name r.formula) now next
    → Behind g tr (judged_restrictions rs) (judged_restrictions (drop (k + 1) rs)) old next
restriction_behind g tr rs k r old now next got b a =
    one_behind g tr (judged_restrictions rs) (judged_restrictions (drop (k + 1) rs)) (record { name = r.name; formula = r.formula }) old now next
    (subst (λ (rest : List RestrictionForm). Behind g tr (judged_restrictions rs) (judged_restrictions rest) old now) (drop_got rs k r got) b) a

pub restrictions_put : (g : Sig) (tr : Trace) (rs : List RestrictionForm) (k : ℕ) (old now : List ℕ) → length rs ≤ k
    → Behind g tr (judged_restrictions rs) (judged_restrictions (drop k rs)) old now → Adds (AreVerdicts g tr (judged_restrictions rs)) old now
restrictions_put g tr rs k old now past b =
    all_behind g tr (judged_restrictions rs) old now
    (subst (λ (rest : List RestrictionForm). Behind g tr (judged_restrictions rs) (judged_restrictions rest) old now) (drop_past rs k past) b)

-- the line of the lemma at a place was put
pub lemma_behind : (g : Sig) (tr : Trace) (ls : List LemmaForm) (k : ℕ) (l : LemmaForm) (old now next : List ℕ) → slice_get ls k ≡ Some l
    → Behind g tr (judged_lemmas ls) (judged_lemmas (drop k ls)) old now → Adds (IsLineFor g tr l.name l.formula) now next
    → Behind g tr (judged_lemmas ls) (judged_lemmas (drop (k + 1) ls)) old next
lemma_behind g tr ls k l old now next got b a =
    one_behind g tr (judged_lemmas ls) (judged_lemmas (drop (k + 1) ls)) (record { name = l.name; formula = l.formula }) old now next
    (subst (λ (rest : List LemmaForm). Behind g tr (judged_lemmas ls) (judged_lemmas rest) old now) (drop_got ls k l got) b) a

pub lemmas_put : (g : Sig) (tr : Trace) (ls : List LemmaForm) (k : ℕ) (old now : List ℕ) → length ls ≤ k
    → Behind g tr (judged_lemmas ls) (judged_lemmas (drop k ls)) old now → Adds (AreVerdicts g tr (judged_lemmas ls)) old now
lemmas_put g tr ls k old now past b =
    all_behind g tr (judged_lemmas ls) old now
    (subst (λ (rest : List LemmaForm). Behind g tr (judged_lemmas ls) (judged_lemmas rest) old now) (drop_past ls k past) b)

appended : (g : Sig) (tr : Trace) (xs ys : List Judged) (a b : List ℕ) → AreVerdicts g tr xs a → AreVerdicts g tr ys b → AreVerdicts g tr (xs ++ ys) (a ++ b)
appended g tr [] ys _ b no_line w = w
appended g tr (x ∷ xs) ys _ b (line_more {text = t} v is rest) w =
    subst (λ (y : List ℕ). AreVerdicts g tr (x ∷ (xs ++ ys)) y) (sym (append_assoc (verdict_line x.name v) t b)) (line_more v is (appended g tr xs ys t b rest w))

-- the lines of restrictions, and then those of lemmas, are all
pub both_put : (g : Sig) (tr : Trace) (rs : List RestrictionForm) (ls : List LemmaForm) (first next last : List ℕ) → first ≡ []
    → Adds (AreVerdicts g tr (judged_restrictions rs)) first next → Adds (AreVerdicts g tr (judged_lemmas ls)) next last → AreVerdicts g tr (all_judged rs ls) last
both_put g tr rs ls first next last none a b =
    let is : last ≡ a.more ++ b.more = b.put ∙ ap (λ (y : List ℕ). y ++ b.more) (a.put ∙ ap (λ (y : List ℕ). y ++ a.more) none) in
    subst (λ (y : List ℕ). AreVerdicts g tr (all_judged rs ls) y) (sym is) (appended g tr (judged_restrictions rs) (judged_lemmas ls) a.more b.more a.are b.are)

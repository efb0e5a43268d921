-- A thread sends on one channel, or on none for one cause.
use Rattle.std.proofs.Common.{◌≡◌, ℕ, Bool, true, false, [], ◌∷◌, refl, sym, ap, subst, ◌⊎◌, inl, inr}
use Rattle.sap_terms.specs.Equations.{equations}
use Rattle.sap_terms.specs.Normal.{IsNormalForm}
use Rattle.sap_terms.specs.Signature.{Sig}
use Rattle.sap_terms.specs.Tree.{Tree}
use Rattle.sap_rewrite.specs.Laws.{FormIsOne}
use Rattle.sap_process.specs.Action as action
use Rattle.sap_process.specs.Configuration.{Config, Runs}
use Rattle.sap_process.specs.Proc.{Proc, act}
use Rattle.sap_lines.specs.Channels.{SendsOn, HasNoChannel, no_memory, unfit, too_large, ChannelsAreOne, ChannelsHaveOneAnswer, MissingChannelsAreOne}
use Rattle.sap_lines.specs.Faults.{IsUnfit, not_running, other_form, is_send, EvaluateLarge}
use Rattle.sap_lines.specs.declared.fault.PFault.{PFault}
use Rattle.sap_lines.specs.declared.fault.PFault.TheVariants as fault
use Rattle.sap_lines.proofs.Answers.{large_small}
use Rattle.sap_lines.proofs.Outcomes.{one_thread}

pub one_channel : FormIsOne → ChannelsAreOne
one_channel one g c t x y h k =
    let process = one_thread c t (act (action.send h.channel h.message) h.behind) (act (action.send k.channel k.message) k.behind) h.runs k.runs in
    let same : k.channel ≡ h.channel = cc in
    one (equations g) h.channel x y h.form (subst (λ (u : Tree). IsNormalForm (equations g) u y) same k.form)

-- a thread that sends on a channel isn't unfit
unfit_sends : (c : Config) (t : ℕ) (m n : Tree) (p : Proc) (e : PFault) → IsUnfit c t is_send e → Runs c t (act (action.send m n) p) → ⊥
unfit_sends c t m n p _ (not_running never) r = never (act (action.send m n) p) r
unfit_sends c t m n p _ (other_form {p = q} runs is) r =
    let process : q ≡ act (action.send m n) p = one_thread c t q (act (action.send m n) p) runs r in
    let there : is_send (act (action.send m n) p) ≡ false = subst (λ (s : Proc). is_send s ≡ false) process is in
    absurd (cc)

pub channel_answer : ChannelsHaveOneAnswer
channel_answer g c t x _ h no_memory = refl
channel_answer g c t x e h (unfit u) = absurd (unfit_sends c t h.channel h.message h.behind e u h.runs)
channel_answer g c t x _ h (too_large {m = m} {n = n} {p = p} r l) =
    let process = one_thread c t (act (action.send m n) p) (act (action.send h.channel h.message) h.behind) r h.runs in
    let first : m ≡ h.channel = cc in
    let second : n ≡ h.message = cc in
    let large : EvaluateLarge g (h.channel ∷ h.message ∷ []) = subst (λ (u : Tree). EvaluateLarge g (u ∷ h.message ∷ [])) first (subst (λ (u : Tree). EvaluateLarge g (m ∷ u ∷ [])) second l) in
    absurd (large_small g (h.channel ∷ h.message ∷ []) large h.small)

unfit_one : (c : Config) (t : ℕ) (form : Proc → Bool) (e f : PFault) → IsUnfit c t form e → IsUnfit c t form f → e ≡ f
unfit_one c t form _ _ (not_running n) (not_running m) = refl
unfit_one c t form _ _ (not_running n) (other_form {p = p} r is) = absurd (n p r)
unfit_one c t form _ _ (other_form {p = p} r is) (not_running m) = absurd (m p r)
unfit_one c t form _ _ (other_form r is) (other_form s too) = refl

pub missing_channels : MissingChannelsAreOne
missing_channels g c t _ f no_memory k = inl refl
missing_channels g c t e _ (unfit u) no_memory = inr (inl refl)
missing_channels g c t e f (unfit u) (unfit v) = inr (inr (unfit_one c t is_send e f u v))
missing_channels g c t e _ (unfit u) (too_large {m = m} {n = n} {p = p} r l) = absurd (unfit_sends c t m n p e u r)
missing_channels g c t _ _ (too_large r l) no_memory = inr (inl refl)
missing_channels g c t _ f (too_large {m = m} {n = n} {p = p} r l) (unfit v) = absurd (unfit_sends c t m n p f v r)
missing_channels g c t _ _ (too_large r l) (too_large s k) = inr (inr refl)

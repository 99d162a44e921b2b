-- How a command reads its image and what it asks, found together.
use Rattle.std.proofs.Common.{◌≡◌, ◌∙◌, ◌⊎◌, inl, inr, ap, refl, Option, Some, None, Result, Ok, Err}
use Rattle.shop_jobs.specs.Input.{BesideView, ReadingView, SourceView}
use Rattle.shop_jobs.specs.Job.{AskView, JobView, TargetView}
use Rattle.shop_words.specs.Gives.{Gives, both}
use Rattle.shop_words.specs.Job.{job_of}
use Rattle.shop_words.specs.Table.{Text}
use Rattle.shop_words.specs.declared.misfit.Misfit.{Misfit}
use Rattle.shop_words.specs.declared.misfit.Misfit.TheVariants.{Memory}

pub both_there : {A B : Type 0} (a : Option A) (b : Option B) (x : A) (y : B) → both a b ≡ Some (x, y) → (a ≡ Some x) × (b ≡ Some y)
both_there None b x y is = cc
both_there (Some a) None x y is = cc
both_there {A} {B} (Some a) (Some b) x y is =
    let same : (a, b) ≡ (x, y) = cc in
    (ap (λ (p : A × B). Some p.0) same, ap (λ (p : A × B). Some p.1) same)

no_job : (image : Option SourceView) (reading : Option ReadingView) (beside : Option BesideView) (ask : Option AskView) (output : Option TargetView)
    (certificate : Option Text) → both reading ask ≡ None → job_of image reading beside ask output certificate ≡ None
no_job None reading beside ask output certificate none = refl
no_job (Some i) None beside ask output certificate none = refl
no_job (Some i) (Some v) None ask output certificate none = refl
no_job (Some i) (Some v) (Some b) None output certificate none = refl
no_job (Some i) (Some v) (Some b) (Some a) output certificate none = cc

-- words that lack one of the two are no job, for that reason
pub fails_too : {T : Type 0} (view : T → JobView) (r : Result T Misfit) (misfit : Misfit) (image : Option SourceView) (reading : Option ReadingView)
    (beside : Option BesideView) (ask : Option AskView) (output : Option TargetView) (certificate : Option Text)
    → r ≡ Err misfit → (misfit ≡ Memory) ⊎ (both reading ask ≡ None) → Gives view (job_of image reading beside ask output certificate) r
fails_too view (Ok job) misfit image reading beside ask output certificate is why = cc
fails_too view (Err other) misfit image reading beside ask output certificate is why =
    let same : other ≡ misfit = cc in
    elim why [
      | inl memory ↦ inl (same ∙ memory)
      | inr none ↦ inr (no_job image reading beside ask output certificate none)
    ]

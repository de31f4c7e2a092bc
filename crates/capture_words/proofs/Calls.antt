-- Words ask for one job, or are a misuse.
use Rattle.std.proofs.Common.{◌≡◌, ◌⊎◌, inl, inr, List, [], ◌∷◌, Result, Ok, Err, ◌∙◌, sym, refl}
use Rattle.clap.specs.Kinds.{Kinds}
use Rattle.clap.specs.Words.{Text}
use Rattle.capture_words.specs.Calls.{AsksFor, Misuses, IsMisuse}
use Rattle.capture_words.specs.Command.{IsCall, refusals, rows_of_words}
use Rattle.capture_words.specs.Jobs.{job_of}
use Rattle.capture_words.specs.declared.job.Job.{Job}
use Rattle.capture_words.specs.declared.usage.UsageFault.{UsageFault}

pub one_job : (words : List Text) (a b : Job) → AsksFor words a → AsksFor words b → a ≡ b
one_job words a b p q = (let e : Ok a ≡ Ok b = sym p.job_is ∙ q.job_is in cc)

pub one_fault : (words : List Text) (a b : UsageFault) → Misuses words a → Misuses words b → a ≡ b
one_fault words a b p q = (let e : Err a ≡ Err b = sym p.fault_is ∙ q.fault_is in cc)

pub no_fault : (words : List Text) (job : Job) (fault : UsageFault) → AsksFor words job → Misuses words fault → ⊥
no_fault words job fault p q = (let e : Ok job ≡ Err fault = sym p.job_is ∙ q.fault_is in cc)

pub not_both : (words : List Text) (job : Job) → AsksFor words job → IsMisuse words → ⊥
not_both words job asks (inl no_call) = no_call asks.call
not_both words job asks (inr misuse) = no_fault words job misuse.0 asks misuse.1

-- words that clap takes ask for a job, or have a fault
of_call : (words : List Text) → IsCall words → (r : Result Job UsageFault) → job_of (rows_of_words words) ≡ r →
    IsMisuse words ⊎ ((job : Job) × AsksFor words job)
of_call words call (Ok job) e = inr (job, record { call = call; job_is = e })
of_call words call (Err fault) e = inl (inr (fault, record { call = call; fault_is = e }))

by_refusals : (words : List Text) (kinds : Kinds) → refusals words ≡ kinds →
    IsMisuse words ⊎ ((job : Job) × AsksFor words job)
by_refusals words [] e = of_call words e (job_of (rows_of_words words)) refl
by_refusals words (kind ∷ kinds) e = inl (inl (λ call. let no : [] ≡ kind ∷ kinds = sym call ∙ e in cc))

pub either : (words : List Text) → IsMisuse words ⊎ ((job : Job) × AsksFor words job)
either words = by_refusals words (refusals words) refl

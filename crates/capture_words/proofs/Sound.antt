-- What entries ask for is sound, by the definitions alone.
use Rattle.std.proofs.Common.{◌≡◌, ℕ, ◌<◌, ◌≤◌, ◌^◌, List, [], ◌∷◌, ◌++◌, Bool, true, false, Option, Some, None, Result}
use Rattle.std.proofs.Common.{Ok, Err, refl, ap, ◌∙◌, subst, length, arith, lit≤, if◌then◌else◌, option_map}
use Rattle.std.specs.Prelude.{ok_or, nat_lt}
use Rattle.std.specs.List.{All}
use Rattle.std.specs.Option.{ForSome}
use Rattle.std.proofs.lemmas.Bool.Decides.{nat_tests}
use Rattle.std.proofs.lemmas.List.Elements.{All-append, All-from_recursion, recursion_from_All}
use Rattle.clap.specs.Words.{Row, Text, first_of}
use Rattle.decimal_words.specs.Numbers.{number_named}
use Rattle.decimal_words.proofs.Numbers.{number_is}
use Rattle.source_events.specs.Plan.{is_sound}
use Rattle.source_events.specs.declared.plan.Plan.{Plan}
use Rattle.trace_funnel.specs.Order.{are_apart}
use Rattle.trace_funnel.specs.SoundTurns.{IsSoundTurns}
use Rattle.trace_funnel.specs.declared.turns.Turns.{Turns}
use Rattle.trace_values.specs.ReadingModes.{frames_named, packets_named}
use Rattle.trace_values.specs.declared.reading_modes.FramesMode.{FramesMode}
use Rattle.capture_words.specs.Choices.{AreIds}
use Rattle.capture_words.specs.Command.{option_name}
use Rattle.capture_words.specs.Jobs.{again_after, fault_or, mapped_twice, plan_with, split_with, ring_with, unring_with}
use Rattle.capture_words.specs.Jobs.{plan_of_one, order_with, turns_with, task_with, job_of, IsOfOne, IsSoundTask}
use Rattle.capture_words.specs.Settings.{◌>>=◌, defaults, present, said, given, all_given, settings_in}
use Rattle.capture_words.specs.Values.{action_in, order_named, bit_named, ids_named, choices_named, window_named}
use Rattle.capture_words.specs.Values.{recover_named, switch_named}
use Rattle.capture_words.specs.declared.job.Job.{Job}
use Rattle.capture_words.specs.declared.job.Task.{Task}
use Rattle.capture_words.specs.declared.job.Task.TheVariants.{Unring as UnringTask}
use Rattle.capture_words.specs.declared.option.CommandOption.{CommandOption}
use Rattle.capture_words.specs.declared.option.CommandOption.TheVariants.{Frames, Packets, Itm, Stp, StpOrder, Id}
use Rattle.capture_words.specs.declared.option.CommandOption.TheVariants.{Only, Window, Sync, Half, Limit, Items}
use Rattle.capture_words.specs.declared.option.CommandOption.TheVariants.{Lose, Recover, Size, Pointer, Full, Order}
use Rattle.capture_words.specs.declared.option.CommandOption.TheVariants.{Hold, Depth, Port, Hz, Kinds}
use Rattle.capture_words.specs.declared.option.TheConstants.{ALL_OPTIONS}
use Rattle.capture_words.specs.declared.reading.Asked.TheVariants.{Do}
use Rattle.capture_words.specs.declared.settings.Settings.{Settings}
use Rattle.capture_words.specs.declared.usage.UsageFault.{UsageFault}
use Rattle.capture_words.specs.declared.usage.UsageFault.TheVariants.{BadValue, MappedTwice, OrderedTwice}
use Rattle.capture_words.specs.declared.usage.UsageFault.TheVariants.{PointerNotUnderSize, TextNeedsItm}
use Rattle.capture_words.specs.declared.usage.UsageFault.TheVariants.{TextReadsOneSource, VcdNeedsItm, VcdReadsOneSource}
use Rattle.capture_words.specs.declared.values.ActionName.{ActionName}
use Rattle.capture_words.specs.declared.values.ActionName.TheVariants.{Show as ShowName, Split as SplitName}
use Rattle.capture_words.specs.declared.values.ActionName.TheVariants.{Check as CheckName, Rebuild as RebuildName}
use Rattle.capture_words.specs.declared.values.ActionName.TheVariants.{Exercise as ExerciseName, Realign as RealignName}
use Rattle.capture_words.specs.declared.values.ActionName.TheVariants.{Ring as RingName, Unring as UnringName}
use Rattle.capture_words.specs.declared.values.ActionName.TheVariants.{Text as TextName, Funnel as FunnelName}
use Rattle.capture_words.specs.declared.values.ActionName.TheVariants.{Vcd as VcdName, Print as PrintName}
use Rattle.capture_words.proofs.Again.{InRange, is_sound_list, is_apart_list}
use Rattle.capture_words.proofs.IdLists.{ids_is}

-- == Answers that are no fault

same_ok : {A : Type 0} {x y : A} → ◌≡◌ {A = Result A UsageFault} (Ok x) (Ok y) → x ≡ y
same_ok e = cc

-- what comes first has a value, by which the rest has its own
record Passes (A B : Type 0) (r : Result A UsageFault) (next : A → Result B UsageFault) (y : B) : Type 0 where
  pub value : A
  pub is : r ≡ Ok value
  pub rest : next value ≡ Ok y

passes : {A B : Type 0} (r : Result A UsageFault) (next : A → Result B UsageFault) (y : B) → (r >>= next) ≡ Ok y →
    Passes A B r next y
passes (Err fault) next y e = absurd cc
passes (Ok x) next y e = record { value = x; is = refl; rest = e }

no_fault : {A : Type 0} (fault : Option UsageFault) (x y : A) → fault_or fault x ≡ Ok y → (fault ≡ None) × (x ≡ y)
no_fault (Some fault) x y e = absurd cc
no_fault None x y e = (refl, same_ok e)

none_again : (f : ℕ → UsageFault) (again : Option ℕ) → option_map f again ≡ None → again ≡ None
none_again f None e = refl
none_again f (Some x) e = absurd cc

-- == Values of options

some_named : {T : Type 0} (named : Option T) (fault : UsageFault) (x : T) → ok_or named fault ≡ Ok x → named ≡ Some x
some_named None fault x e = absurd cc
some_named (Some y) fault x e = let same : y ≡ x = same_ok e in ap (λ z. Some z) same

-- what holds of the settings with each value that a text names
changed : {T : Type 0} (Are : Settings → Type 0) (named : Option T) (put : T → Settings) (t : Settings) →
    ((x : T) → named ≡ Some x → Are (put x)) → option_map put named ≡ Some t → Are t
changed Are None put t h e = absurd cc
changed Are (Some x) put t h e = subst Are (let same : put x ≡ t = cc in same) (h x refl)

abbrev Between : ℕ → ℕ → ℕ → Type 0
Between least greatest n = (least ≤ n) × (n ≤ greatest)

between : (least greatest : ℕ) (text : Text) (n : ℕ) → number_named least greatest text ≡ Some n →
    Between least greatest n
between least greatest text n e = let is = number_is least greatest n text e in (is.0, is.1)

-- a setting that may be absent
if_present : {T : Type 0} (Is : T → Type 0) (named : Option T) (value : Option T) →
    ((x : T) → named ≡ Some x → Is x) → present named ≡ Some value → ForSome value Is
if_present Is None value h e = absurd cc
if_present Is (Some x) value h e = λ y is. h y (let same : x ≡ y = cc in ap (λ z. Some z) same)

abbrev Mapped : List ℕ → Type 0
Mapped ids = All (InRange 111) ids

mapped : (text : Text) (ids : List ℕ) → ids_named 8 111 text ≡ Some ids → Mapped ids
mapped text ids e = (ids_is 8 111 ids text (lit≤ tt) e).0.0

-- == What all options say

abbrev IsSize : Option ℕ → Type 0
IsSize size = ForSome size (Between 16 (2 ^ 24))

abbrev IsGivenOrder : Option (List ℕ) → Type 0
IsGivenOrder order = ForSome order (AreIds 16 126)

abbrev IsHz : Option ℕ → Type 0
IsHz hz = ForSome hz (λ n. 0 < n)

abbrev AreMapped : Plan → Type 0
AreMapped plan = Mapped plan.itm × Mapped plan.stp

abbrev AreSmall : Settings → Type 0
AreSmall s = (s.half ≤ 8) × (s.lose ≤ 1000000) × (s.port ≤ 31)

abbrev AreBetween : Settings → Type 0
AreBetween s =
    Between 1 (2 ^ 36) s.limit × Between 1 1000000 s.items × Between 1 15 s.hold × Between 1 4096 s.depth

abbrev ArePresent : Settings → Type 0
ArePresent s = IsSize s.size × IsGivenOrder s.order × IsHz s.hz

abbrev AreSettings : Settings → Type 0
AreSettings s = AreMapped s.plan × AreSmall s × AreBetween s × ArePresent s

by_default : AreSettings defaults
by_default = (
  (All-from_recursion (InRange 111) [] tt, All-from_recursion (InRange 111) [] tt),
  (lit≤ tt, lit≤ tt, lit≤ tt),
  ((lit≤ tt, lit≤ tt), (lit≤ tt, lit≤ tt), (lit≤ tt, lit≤ tt), (lit≤ tt, lit≤ tt)),
  (λ x e. absurd cc, λ x e. absurd cc, λ x e. absurd cc),
)

positive : (text : Text) (n : ℕ) → number_named 1 1000000000000 text ≡ Some n → 0 < n
positive text n e = let is = between 1 1000000000000 text n e in omega (arith, is.0)

in_order : (text : Text) (ids : List ℕ) → ids_named 16 126 text ≡ Some ids → AreIds 16 126 ids
in_order text ids e = (ids_is 16 126 ids text (lit≤ tt) e).0

-- each option that is given keeps that
kept : (s : Settings) (option : CommandOption) (text : Text) (t : Settings) → AreSettings s →
    said s option text ≡ Some t → AreSettings t
kept s Frames text t are e = changed AreSettings (frames_named text) _ t (λ x is. are) e
kept s Packets text t are e = changed AreSettings (packets_named text) _ t (λ x is. are) e
kept s Itm text t ((itm, stp), small, ranges, optional) e =
    changed AreSettings (ids_named 8 111 text) _ t (λ ids is. ((mapped text ids is, stp), small, ranges, optional)) e
kept s Stp text t ((itm, stp), small, ranges, optional) e =
    changed AreSettings (ids_named 8 111 text) _ t (λ ids is. ((itm, mapped text ids is), small, ranges, optional)) e
kept s StpOrder text t are e = changed AreSettings (order_named text) _ t (λ x is. are) e
kept s Id text t are e = changed AreSettings (present (number_named 0 126 text)) _ t (λ x is. are) e
kept s Only text t are e = changed AreSettings (present (choices_named text)) _ t (λ x is. are) e
kept s Window text t are e = changed AreSettings (present (window_named text)) _ t (λ x is. are) e
kept s Sync text t are e = changed AreSettings (number_named 0 1000000 text) _ t (λ x is. are) e
kept s Half text t (plan, (half, lose, port), ranges, optional) e =
    changed AreSettings (number_named 0 8 text) _ t
    (λ n is. (plan, ((between 0 8 text n is).1, lose, port), ranges, optional)) e
kept s Limit text t (plan, small, (limit, items, hold, depth), optional) e =
    changed AreSettings (number_named 1 (2 ^ 36) text) _ t
    (λ n is. (plan, small, (between 1 (2 ^ 36) text n is, items, hold, depth), optional)) e
kept s Items text t (plan, small, (limit, items, hold, depth), optional) e =
    changed AreSettings (number_named 1 1000000 text) _ t
    (λ n is. (plan, small, (limit, between 1 1000000 text n is, hold, depth), optional)) e
kept s Lose text t (plan, (half, lose, port), ranges, optional) e =
    changed AreSettings (number_named 0 1000000 text) _ t
    (λ n is. (plan, (half, (between 0 1000000 text n is).1, port), ranges, optional)) e
kept s Recover text t are e = changed AreSettings (recover_named text) _ t (λ x is. are) e
kept s Size text t (plan, small, ranges, (size, order, hz)) e =
    changed AreSettings (present (number_named 16 (2 ^ 24) text)) _ t
    (λ value is. (plan, small, ranges, (if_present (Between 16 (2 ^ 24)) _ value (between 16 (2 ^ 24) text) is, order, hz)))
    e
kept s Pointer text t are e = changed AreSettings (number_named 0 16777215 text) _ t (λ x is. are) e
kept s Full text t are e = changed AreSettings (bit_named text) _ t (λ x is. are) e
kept s Order text t (plan, small, ranges, (size, order, hz)) e =
    changed AreSettings (present (ids_named 16 126 text)) _ t
    (λ value is. (plan, small, ranges, (size, if_present (AreIds 16 126) _ value (in_order text) is, hz))) e
kept s Hold text t (plan, small, (limit, items, hold, depth), optional) e =
    changed AreSettings (number_named 1 15 text) _ t
    (λ n is. (plan, small, (limit, items, between 1 15 text n is, depth), optional)) e
kept s Depth text t (plan, small, (limit, items, hold, depth), optional) e =
    changed AreSettings (number_named 1 4096 text) _ t
    (λ n is. (plan, small, (limit, items, hold, between 1 4096 text n is), optional)) e
kept s Port text t (plan, (half, lose, port), ranges, optional) e =
    changed AreSettings (number_named 0 31 text) _ t
    (λ n is. (plan, (half, lose, (between 0 31 text n is).1), ranges, optional)) e
kept s Hz text t (plan, small, ranges, (size, order, hz)) e =
    changed AreSettings (present (number_named 1 1000000000000 text)) _ t
    (λ value is. (plan, small, ranges, (size, order, if_present (λ n. 0 < n) _ value (positive text) is))) e
kept s Kinds text t are e = changed AreSettings (switch_named text) _ t (λ x is. are) e

kept_given : (s : Settings) (option : CommandOption) (text : Option Text) (t : Settings) → AreSettings s →
    given s option text ≡ Some t → AreSettings t
kept_given s option None t are e = subst AreSettings (let same : s ≡ t = cc in same) are
kept_given s option (Some text) t are e = kept s option text t are e

of_all : (rows : List Row) (options : List CommandOption) (s t : Settings) → AreSettings s →
    all_given rows options s ≡ Ok t → AreSettings t
of_all rows [] s t are e = subst AreSettings (same_ok e) are
of_all rows (option ∷ options) s t are e =
    let text = first_of (option_name option) rows in
    let first = passes (ok_or (given s option text) (BadValue option)) (all_given rows options) t e in
    let is = some_named (given s option text) (BadValue option) first.value first.is in
    of_all rows options first.value t (kept_given s option text first.value are is) first.rest

-- == What the action needs

of_plan_with : (plan sound : Plan) → AreMapped plan → plan_with plan ≡ Ok sound → is_sound sound ≡ true
of_plan_with plan sound are e =
    let none = no_fault (option_map MappedTwice (mapped_twice plan)) plan sound e in
    let all = All-append (InRange 111) plan.itm plan.stp are.0 are.1 in
    subst (λ (p : Plan). is_sound p ≡ true) none.1
    (is_sound_list (plan.itm ++ plan.stp) (none_again MappedTwice (mapped_twice plan) none.0)
    (recursion_from_All (InRange 111) (plan.itm ++ plan.stp) all))

of_one : (none more : UsageFault) (ids : List ℕ) (plan one : Plan) → Mapped ids →
    plan_of_one none more ids plan ≡ Ok one → IsOfOne one
of_one none more [] plan one are e = absurd cc
of_one none more (id ∷ []) plan one are e =
    subst IsOfOne (same_ok e) (is_sound_list (id ∷ []) refl (recursion_from_All (InRange 111) (id ∷ []) are), refl, refl)
of_one none more (id ∷ other ∷ ids) plan one are e = absurd cc

of_split : (frames : FramesMode) (id : Option ℕ) (task : Task) → split_with frames id ≡ Ok task → IsSoundTask task
of_split frames None task e = absurd cc
of_split frames (Some id) task e = subst IsSoundTask (same_ok e) tt

of_ring : (size : Option ℕ) (task : Task) → ForSome size (Between 16 (2 ^ 24)) → ring_with size ≡ Ok task →
    IsSoundTask task
of_ring None task is e = absurd cc
of_ring (Some size) task is e = subst IsSoundTask (same_ok e) (is size refl)

of_unring : (size : Option ℕ) (pointer : ℕ) (full : Bool) (task : Task) → ForSome size (Between 16 (2 ^ 24)) →
    unring_with size pointer full ≡ Ok task → IsSoundTask task
of_unring None pointer full task is e = absurd cc
of_unring (Some size) pointer full task is e = go (nat_lt pointer size) refl e
  where
    go : (b : Bool) → nat_lt pointer size ≡ b →
        (if b then Ok (UnringTask size pointer full) else Err PointerNotUnderSize) ≡ Ok task → IsSoundTask task
    go false b e = absurd cc
    go true b e =
        let under : pointer < size = grind (arith, nat_tests) in
        let bounds = is size refl in
        subst IsSoundTask (same_ok e) (bounds.0, bounds.1, under)

abbrev IsOrder : List ℕ → Type 0
IsOrder order = (0 < length order) × (are_apart order ≡ true)

of_order : (given : Option (List ℕ)) (order : List ℕ) → ForSome given (AreIds 16 126) → order_with given ≡ Ok order →
    IsOrder order
of_order None order are e = absurd cc
of_order (Some ids) order are e =
    let none = no_fault (option_map OrderedTwice (again_after [] ids)) ids order e in
    let in_order = are ids refl in
    let apart =
    is_apart_list ids (none_again OrderedTwice (again_after [] ids) none.0)
    (recursion_from_All (InRange 126) ids in_order.0) in
    subst IsOrder none.1 (omega (arith, in_order.1), apart)

of_turns_with : (given : Option (List ℕ)) (hold depth : ℕ) (turns : Turns) → IsGivenOrder given → Between 1 15 hold →
    Between 1 4096 depth → turns_with given hold depth ≡ Ok turns → IsSoundTurns turns
of_turns_with given hold depth turns are few deep e =
    let order = passes (order_with given) _ turns e in
    let is = of_order given order.value are order.is in
    subst (λ (t : Turns). IsSoundTurns t) (same_ok order.rest) (is.0, is.1, few.0, few.1, deep.0, deep.1)

of_task : (name : ActionName) (s : Settings) (task : Task) → AreSettings s → task_with name s ≡ Ok task →
    IsSoundTask task
of_task ShowName s task (plans, small, ranges, optional) e =
    let plan = passes (plan_with s.plan) _ task e in
    subst IsSoundTask (same_ok plan.rest) (of_plan_with s.plan plan.value plans plan.is)
of_task SplitName s task are e = of_split s.plan.frames s.id task e
of_task CheckName s task (plans, small, ranges, optional) e =
    let plan = passes (plan_with s.plan) _ task e in
    subst IsSoundTask (same_ok plan.rest) (of_plan_with s.plan plan.value plans plan.is)
of_task RebuildName s task (plans, (half, lose, port), ranges, optional) e =
    let plan = passes (plan_with s.plan) _ task e in
    subst IsSoundTask (same_ok plan.rest) (of_plan_with s.plan plan.value plans plan.is, half)
of_task ExerciseName s task (plans, (half, lose, port), (limit, items, hold, depth), optional) e =
    subst IsSoundTask (same_ok e) (items.0, items.1, lose)
of_task RealignName s task are e = subst IsSoundTask (same_ok e) tt
of_task RingName s task (plans, small, ranges, (size, order, hz)) e = of_ring s.size task size e
of_task UnringName s task (plans, small, ranges, (size, order, hz)) e = of_unring s.size s.pointer s.full task size e
of_task TextName s task (plans, (half, lose, port), ranges, optional) e =
    let plan = passes (plan_of_one TextNeedsItm TextReadsOneSource s.plan.itm s.plan) _ task e in
    let one = of_one TextNeedsItm TextReadsOneSource s.plan.itm s.plan plan.value plans.0 plan.is in
    subst IsSoundTask (same_ok plan.rest) (one, port)
of_task VcdName s task (plans, small, ranges, (size, order, hz)) e =
    let plan = passes (plan_of_one VcdNeedsItm VcdReadsOneSource s.plan.itm s.plan) _ task e in
    let one = of_one VcdNeedsItm VcdReadsOneSource s.plan.itm s.plan plan.value plans.0 plan.is in
    subst IsSoundTask (same_ok plan.rest) (one, hz)
of_task FunnelName s task (plans, (half, lose, port), (limit, items, hold, depth), (size, order, hz)) e =
    let plan = passes (plan_with s.plan) _ task e in
    let turns = passes (turns_with s.order s.hold s.depth) _ task plan.rest in
    let sound = of_plan_with s.plan plan.value plans plan.is in
    subst IsSoundTask (same_ok turns.rest)
    (sound, half, of_turns_with s.order s.hold s.depth turns.value order hold depth turns.is)
of_task (PrintName page) s task are e = subst IsSoundTask (same_ok e) tt

abbrev IsSoundJob : Job → Type 0
IsSoundJob job = Between 1 (2 ^ 36) job.limit × IsSoundTask job.task

-- the job that the entries ask for, and so the one that is told
pub sound : (rows : List Row) (job told : Job) → job_of rows ≡ Ok job → Do job ≡ Do told → IsSoundJob told
sound rows job told e same =
    let name = passes (action_in rows) _ job e in
    let settings = passes (settings_in rows) _ job name.rest in
    let task = passes (task_with name.value settings.value) _ job settings.rest in
    let are = of_all rows ALL_OPTIONS defaults settings.value by_default settings.is in
    subst IsSoundJob (let it : job ≡ told = cc in same_ok task.rest ∙ it)
    (are.2.0, of_task name.value settings.value task.value are task.is)

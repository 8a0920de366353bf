-- SPDX-License-Identifier: MIT
-- What is found in a scene, and how a search ended.
use Rattle.std.specs.Prelude.{ℕ, suc, ◌≡◌, List, [], All, Contains, Option, Some, None, Bool, true, false, option_map, slice_index}
use Rattle.po_scene.specs.declared.scene.Scene.{Scene}
use Rattle.po_explore.specs.declared.finding.Found.{Found}
use Rattle.po_explore.specs.declared.finding.Kind.{Kind}
use Rattle.po_explore.specs.declared.finding.Kind.TheVariants.{Stuck, Raised, ProgramError, Refused, Invariant, Completed, Cancelled}
use Rattle.po_explore.specs.declared.news.News.{News}
use Rattle.po_explore.specs.declared.report.Verdict.{Verdict}
use Rattle.po_explore.specs.declared.report.Verdict.TheVariants.{Found as FoundVerdict, Clean, CutOff}
use Rattle.po_explore.specs.Scenes.{StageView, IsBeginning, IsStuck, IsBroken, latest_at, after_order}
use Rattle.po_explore.specs.News.{kind_of, answer_of, order_news}

-- the line of the latest command of a caller, if it has made one
abbrev pub line_of : Scene → StageView → ℕ → Option ℕ
line_of scene stage caller = option_map (λ c. c.line) (latest_at scene caller (slice_index stage.made caller))

-- Among the news there is some that shows this kind, and the line is that of the latest command of the caller who is told it.
abbrev pub IsTold : Scene → StageView → List News → (News → Option Kind) → Found → Type 0
IsTold scene stage told kind found =
    (n : News) × Contains told n × (kind n ≡ Some found.kind) × (found.line ≡ line_of scene stage n.caller)

-- What is found is so: that callers wait for ever and that an invariant is broken, of the objects; all else, of what callers were
-- told of the last command.
abbrev pub IsShown : Scene → StageView → List News → Kind → Found → Type 0
IsShown scene stage told Stuck found = IsStuck scene stage
IsShown scene stage told (Invariant object function) found = IsBroken scene stage.views object function
IsShown scene stage told (Raised exception) found = IsTold scene stage told (λ n. kind_of n.event) found
IsShown scene stage told ProgramError found = IsTold scene stage told (λ n. kind_of n.event) found
IsShown scene stage told (Refused why) found = IsTold scene stage told (λ n. kind_of n.event) found
IsShown scene stage told (Completed number values) found =
    IsTold scene stage told (λ n. answer_of n.event (slice_index stage.made n.caller)) found
IsShown scene stage told (Cancelled number) found =
    IsTold scene stage told (λ n. answer_of n.event (slice_index stage.made n.caller)) found

-- This is found in the stage, after the command that brought the news about.
abbrev pub Shows : Scene → StageView → List News → Found → Type 0
Shows scene stage told found = IsShown scene stage told found.kind found

-- Each thing found is so.
abbrev pub AllShown : Scene → StageView → List News → List Found → Type 0
AllShown scene stage told list = All (Shows scene stage told) list

-- From the scene's beginning the callers' commands in this order lead to what is found.
abbrev pub LeadsTo : Scene → List ℕ → Found → Type 0
LeadsTo scene order found =
    (first : StageView) × IsBeginning scene first
    × Shows scene (after_order scene first order) (order_news scene first [] order) found

-- how a search ended: whether something was found, and else whether it says that it is complete
abbrev pub verdict_by : Bool → Bool → Verdict
verdict_by true is_complete = FoundVerdict
verdict_by false true = Clean
verdict_by false false = CutOff

-- `searches::trace::trace_of`: the first run found to a bad state is the trace, and where there is none the trace has no state. From the laws of what a
-- search holds. Assumes nothing.
use Rattle.std.proofs.Common.{ap, ◌∙◌, sym}
use Rattle.systems.specs.ByTables.{system_by}
use Rattle.systems.specs.BySystems.{system_among}
use Rattle.traces.specs.Traced.{trace_array, trace_with}
use Rattle.searches.proofs.Stored.{trace_found, trace_none}
use Rattle.searches.proofs.trace.trace_of.Goals as goal

pub returns-in-Some : goal.returns-in-Some
unfolding system_by trace_array
returns-in-Some c =
    rw c.found-in-Some.ensures at c.run_at.ensures
    ∙ ap trace_with (trace_found (system_among c.args.systems c.args.set.0) c.explore.ensures _ (rw c.found.ensures at c.in-Some.ensures))

pub returns-in-None : goal.returns-in-None
unfolding system_by trace_array trace_with
returns-in-None c = c.none.ensures ∙ ap trace_with (sym (trace_none (system_among c.args.systems c.args.set.0) c.explore.ensures (rw c.found.ensures at c.in-None.ensures)))

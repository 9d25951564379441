-- `trace` by the filled tables: a set has by them the trace that it means. From what filled tables answer.
use Rattle.std.proofs.Common.{rules}
use Rattle.traces.specs.Traced.{trace_array}
use Rattle.traces.specs.Laws.Traced.{same_trace_array}
use Rattle.analysis.proofs.Filled.{search_is}
use Rattle.analysis.proofs.trace.trace.Goals as goal

pub returns : goal.returns
returns c = search_is c.with_systems.ensures.1 trace_array (λ N M. same_trace_array) c.requires.set_bound (search rules)

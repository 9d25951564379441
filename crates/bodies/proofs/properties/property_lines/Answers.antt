-- `bodies::properties::property_lines` keeps what was read of the property lines. Assumes nothing.
use Rattle.bodies.proofs.PartLines.{properties_kept}
use Rattle.bodies.proofs.properties.property_lines.Goals as goal

pub returns-clause-kept : goal.returns-clause-kept
returns-clause-kept c = properties_kept c.args.text.now c.args.vars c.args.r.now c.args.properties _ _ c.part_lines.ensures.kept

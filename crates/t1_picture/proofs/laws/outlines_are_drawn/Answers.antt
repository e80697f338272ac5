use Rattle.t1_picture.proofs.ArrowLayers.{arrows_are_those_of_its_parts}
use Rattle.t1_picture.proofs.OutlineLayers.{outline_is_that_of_its_parts, whole_parts_are_outlines}
use Rattle.t1_picture.proofs.laws.outlines_are_drawn.Goals as goal

pub returns-clause-parts : goal.returns-clause-parts
returns-clause-parts c = outline_is_that_of_its_parts

pub returns-clause-arrows : goal.returns-clause-arrows
returns-clause-arrows c = arrows_are_those_of_its_parts

pub returns-clause-whole : goal.returns-clause-whole
returns-clause-whole c = whole_parts_are_outlines

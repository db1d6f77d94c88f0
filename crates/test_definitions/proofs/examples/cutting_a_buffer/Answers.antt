use Rattle.test_definitions.proofs.WorkedImages.CutBuffers.{cut-changes, cut-not_whole, cut-shrinks, cut-root_paths, unnamed-lost, unnamed-lost_inside, unnamed-beside, unnamed-not_beside}
use Rattle.test_definitions.proofs.examples.cutting_a_buffer.Goals as goal

pub returns : goal.returns
returns c = record {
  shrinks = cut-shrinks;
  changes = cut-changes;
  not_whole = cut-not_whole;
  paths = cut-root_paths;
  lost = unnamed-lost;
  lost_inside = unnamed-lost_inside;
  beside = unnamed-beside;
  not_beside = unnamed-not_beside;
}

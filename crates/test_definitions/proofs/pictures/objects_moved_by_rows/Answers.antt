use Rattle.test_definitions.proofs.Rows.MovedObjectLaws.{put_keeps, take_keeps, freeze_keeps, put_refused}
use Rattle.test_definitions.proofs.pictures.objects_moved_by_rows.Goals as goal

pub returns : goal.returns
returns c = record { put = put_keeps; take = take_keeps; freeze = freeze_keeps; refused = put_refused }

-- The pass of `maintain` over the lists: the runs of the pool, what each walk keeps of its run, and how the pass goes on.
pub mod Inner

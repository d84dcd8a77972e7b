mod FirstLeaf
mod ThreeLeaves
mod TreeRuns
